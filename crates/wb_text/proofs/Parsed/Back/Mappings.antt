-- Mappings are read back.
use Rattle.std.proofs.Common.{◌≡◌, ◌==◌, ℕ, ℤ, Bool, true, false, ◌&&◌, nat_le, List, [], ◌∷◌, ◌++◌, length, Some, Ok, refl, arith}
use Rattle.std.proofs.lemmas.Bool.{leb-true, eqb-true}
use Rattle.std.proofs.lemmas.List.Elements.{recursion_from_All}
use Rattle.wb_range.specs.Canonical.{IsRange}
use Rattle.wb_dist.specs.Grid.{are_positive, is_grid}
use Rattle.wb_dist.specs.Maps.{LayoutMap, whole, block, cyclic, block_cyclic, is_rank, is_box, is_layout}
use Rattle.wb_cells.specs.Layouts.{IsMapping}
use Rattle.wb_literals.specs.Grammar as grammar
use Rattle.wb_literals.specs.declared.mapping.MappingLiteral.{MappingLiteral}
use Rattle.wb_literals.specs.declared.mapping.MappingLiteral.TheVariants.{Whole, Block, Cyclic, BlockCyclic}
use Rattle.wb_literals.proofs.MappingGrammar.{mapping_read}
use Rattle.wb_literals.specs.Limits.Mappings.{coordinates_of, counts_of, judged, mapping_within}
use Rattle.wb_text.specs.Literals.{rectangle_text, point_text, integers_text, last_grid_text, mapping_text}
use Rattle.wb_text.proofs.Readable.{both}
use Rattle.wb_text.proofs.ReadIndices.{AreWithin, IsPoint}
use Rattle.wb_text.proofs.ReadMappings.{IsMapped}
use Rattle.wb_text.specs.Parsed.Parts.{layout_at}
use Rattle.wb_text.proofs.Parsed.Back.Spelled.{comma_spelled, IsShort, by_length, grid_of, grid_spelled, index_of, point_spelled}
use Rattle.wb_text.proofs.Parsed.Back.Ranges.{literal_of_all, rectangle_spelled, domain_back, short}

-- ---- grids and points stand for their numbers

pub counts_back : (ns : List ℤ) → IsShort ns → counts_of (grid_of ns) ≡ ns
unfolding grid_of
counts_back = by_length (λ ns. counts_of (grid_of ns) ≡ ns) (λ n. refl) (λ n m. refl) (λ n m l. refl)

pub coordinates_back : (is : List ℤ) → IsShort is → coordinates_of (index_of is) ≡ is
unfolding index_of
coordinates_back = by_length (λ is. coordinates_of (index_of is) ≡ is) (λ i. refl) (λ i j. refl) (λ i j k. refl)

point_within : (is : List ℤ) → IsPoint is → AreWithin is
point_within [] h = absurd h
point_within (i ∷ is) h = h

-- ---- the parts of a mapping are of its rank

cyclic_parts : (a b c d : Bool) → a && b && c && d ≡ true → (a ≡ true) × (b ≡ true) × (c ≡ true)
cyclic_parts true true true d e = (refl, refl, refl)
cyclic_parts true true false d e = cc
cyclic_parts true false c d e = cc
cyclic_parts false b c d e = cc

block_parts : (a b c d g : Bool) → a && b && c && d && g ≡ true → (a ≡ true) × (b ≡ true) × (c ≡ true)
block_parts true true true d g e = (refl, refl, refl)
block_parts true true false d g e = cc
block_parts true false c d g e = cc
block_parts false b c d g e = cc

block_cyclic_parts : (a b c d g h : Bool) → a && b && c && d && g && h ≡ true → (a ≡ true) × (b ≡ true) × (c ≡ true) × (d ≡ true)
block_cyclic_parts true true true true g h e = (refl, refl, refl, refl)
block_cyclic_parts true true true false g h e = cc
block_cyclic_parts true true false d g h e = cc
block_cyclic_parts true false c d g h e = cc
block_cyclic_parts false b c d g h e = cc

short_of : {X : Type 0} (rank : ℕ) (xs : List X) → is_rank rank ≡ true → (length xs == rank) ≡ true → IsShort xs
short_of rank xs e f =
    let b = both (nat_le 1 rank) (nat_le rank 3) e in
    let low = leb-true 1 rank b.0 in let high = leb-true rank 3 b.1 in let same = eqb-true (length xs) rank f in
    record { some = omega (arith, low, same); few = omega (arith, high, same) }

judged_back : (rank : ℕ) (m : LayoutMap) (ns : List ℤ) → is_layout rank m ≡ true → (length ns == rank) ≡ true → judged (length ns) m ≡ Ok m
judged_back rank m ns e f = rw (eqb-true (length ns) rank f, e) refl

-- ---- mappings

pub literal_of_mapping : LayoutMap → MappingLiteral
literal_of_mapping whole = Whole
literal_of_mapping (block m) = Block (literal_of_all m.box) (grid_of m.grid)
literal_of_mapping (cyclic m) = Cyclic (index_of m.start) (grid_of m.grid)
literal_of_mapping (block_cyclic m) = BlockCyclic (index_of m.start) (index_of m.size) (grid_of m.grid)

last_grid_spelled : (ns : List ℤ) → IsShort ns → AreWithin ns → grammar.IsLastGrid (last_grid_text ns) (grid_of ns)
last_grid_spelled ns s h = (44 ∷ 32 ∷ [], integers_text ns, [], comma_spelled, grid_spelled ns s h, tt, refl)

pub mapping_spelled : (rank : ℕ) (m : LayoutMap) → IsMapping rank m → IsMapped m → grammar.IsMapping (mapping_text m) (literal_of_mapping m)
unfolding literal_of_mapping
mapping_spelled rank whole h w = refl
mapping_spelled rank (block m) h w =
    let p = block_parts (is_rank rank) (length m.box == rank) (length m.grid == rank) (is_box m.box) (is_grid m.grid) h.valid in (
      [],
      rectangle_text m.box,
      last_grid_text m.grid,
      tt,
      rectangle_spelled m.box (short rank m.box h.in_limits)
          (recursion_from_All IsRange m.box h.in_limits.kept),
      last_grid_spelled m.grid (short_of rank m.grid p.0 p.2) w.1,
      refl,
    )
mapping_spelled rank (cyclic m) h w =
    let p = cyclic_parts (is_rank rank) (length m.start == rank) (length m.grid == rank) (is_grid m.grid) h.valid in (
      [],
      point_text m.start,
      last_grid_text m.grid,
      tt,
      point_spelled m.start (short_of rank m.start p.0 p.1) (point_within m.start w.0),
      last_grid_spelled m.grid (short_of rank m.grid p.0 p.2) w.1,
      refl,
    )
mapping_spelled rank (block_cyclic m) h w =
    let p = block_cyclic_parts (is_rank rank) (length m.start == rank) (length m.size == rank) (length m.grid == rank) (are_positive m.size) (is_grid m.grid)
    h.valid in (
      [],
      point_text m.start,
      44 ∷ 32 ∷ [],
      point_text m.size,
      last_grid_text m.grid,
      tt,
      point_spelled m.start (short_of rank m.start p.0 p.1) (point_within m.start w.0),
      comma_spelled,
      point_spelled m.size (short_of rank m.size p.0 p.2) (point_within m.size w.1),
      last_grid_spelled m.grid (short_of rank m.grid p.0 p.3) w.2,
      refl,
    )

pub mapping_back : (rank : ℕ) (m : LayoutMap) → IsMapping rank m → mapping_within (literal_of_mapping m) ≡ Ok m
unfolding literal_of_mapping
mapping_back rank whole h = refl
mapping_back rank (block m) h =
    let p = block_parts (is_rank rank) (length m.box == rank) (length m.grid == rank) (is_box m.box) (is_grid m.grid) h.valid in
    rw (
      domain_back m.box (short rank m.box h.in_limits) (recursion_from_All IsRange m.box h.in_limits.kept) h.in_limits.size,
      counts_back m.grid (short_of rank m.grid p.0 p.2),
    ) (judged_back rank (block m) m.grid h.valid p.2)
mapping_back rank (cyclic m) h =
    let p = cyclic_parts (is_rank rank) (length m.start == rank) (length m.grid == rank) (is_grid m.grid) h.valid in
    rw (coordinates_back m.start (short_of rank m.start p.0 p.1), counts_back m.grid (short_of rank m.grid p.0 p.2))
    (judged_back rank (cyclic m) m.grid h.valid p.2)
mapping_back rank (block_cyclic m) h =
    let p = block_cyclic_parts (is_rank rank) (length m.start == rank) (length m.size == rank) (length m.grid == rank) (are_positive m.size) (is_grid m.grid)
    h.valid in
    rw (
      coordinates_back m.start (short_of rank m.start p.0 p.1),
      coordinates_back m.size (short_of rank m.size p.0 p.2),
      counts_back m.grid (short_of rank m.grid p.0 p.3),
    ) (judged_back rank (block_cyclic m) m.grid h.valid p.3)

pub layout_back : (rank : ℕ) (m : LayoutMap) (rest : List ℕ) → IsMapping rank m → IsMapped m → layout_at (32 ∷ (mapping_text m ++ rest)) ≡ Some (m, rest)
layout_back rank m rest h w = rw (mapping_read (mapping_text m) rest (literal_of_mapping m) (mapping_spelled rank m h w), mapping_back rank m h) refl

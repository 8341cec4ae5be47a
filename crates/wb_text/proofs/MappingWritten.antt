-- The parts of a mapping may be written.
use Rattle.std.proofs.Common.{◌≡◌, ◌==◌, ℕ, zero, suc, ◌*◌, ◌≤◌, ℤ, pos, negsuc, int_le, nat_le, Bool, true, false, ◌&&◌, List, [], ◌∷◌, length, refl, arith}
use Rattle.std.proofs.lemmas.Bool.{leb-true, eqb-true}
use Rattle.std.proofs.lemmas.List.Elements.{recursion_from_All}
use Rattle.std.specs.List.{AllByRecursion, list_all}
use Rattle.wb_range.specs.Canonical.{IsRange}
use Rattle.wb_range.specs.Sequence.{or_zero}
use Rattle.wb_rect.specs.Product.{IsRectangle}
use Rattle.wb_dist.specs.Grid.{size_of_grid, are_positive, is_grid}
use Rattle.wb_dist.specs.Maps.{LayoutMap, whole, block, cyclic, block_cyclic, is_rank, is_box}
use Rattle.wb_cells.specs.Layouts.{IsMapping}
use Rattle.wb_literals.specs.Integer.{IsWithin}
use Rattle.wb_text.proofs.Readable.{Each, both}
use Rattle.wb_text.proofs.Numbers.{fit_within}
use Rattle.wb_text.proofs.ReadIndices.{AreWithin, IsPoint}
use Rattle.wb_text.proofs.ReadRanges.{IsSpelled}
use Rattle.wb_text.proofs.ReadMappings.{IsMapped}
use Rattle.wb_text.proofs.RangeSpelled.{range_spelled}

-- the ranges of a rectangle
spelled_each : (rs : List (List ℤ)) → AllByRecursion IsRange rs → Each IsSpelled rs
spelled_each [] h = tt
spelled_each (r ∷ rs) h = (range_spelled r h.0, spelled_each rs h.1)

pub rectangle_spelled : (rank : ℕ) (rs : List (List ℤ)) → IsRectangle rank rs → Each IsSpelled rs
rectangle_spelled rank rs h = spelled_each rs (recursion_from_All IsRange rs h.kept)

-- ---- grids

grown : (n m : ℕ) → 1 ≤ n → m ≤ n * m
grown zero m h = absurd (omega (arith, h))
grown (suc n) m h = omega arith

grown_too : (n m : ℕ) → 1 ≤ m → n ≤ n * m
grown_too n zero h = absurd (omega (arith, h))
grown_too n (suc m) h = omega arith

positive : (n : ℤ) → int_le (pos 1) n ≡ true → 1 ≤ or_zero n
positive (pos n) e = leb-true 1 n e
positive (negsuc n) e = cc

small_within : (n : ℤ) → int_le (pos 1) n ≡ true → or_zero n ≤ 256 → IsWithin n
small_within (pos n) e h = omega (arith, h)
small_within (negsuc n) e h = cc

some_places : (ns : List ℤ) → are_positive ns ≡ true → 1 ≤ size_of_grid ns
some_places [] e = omega arith
some_places (n ∷ ns) e =
    let parts = both (int_le (pos 1) n) (list_all (int_le (pos 1)) ns) e in
    let first = positive n parts.0 in let rest = some_places ns parts.1 in
    omega (arith, first, rest, grown (or_zero n) (size_of_grid ns) first)

extents_within : (ns : List ℤ) → are_positive ns ≡ true → size_of_grid ns ≤ 256 → AreWithin ns
extents_within [] e h = tt
extents_within (n ∷ ns) e h =
    let parts = both (int_le (pos 1) n) (list_all (int_le (pos 1)) ns) e in
    let first = positive n parts.0 in let rest = some_places ns parts.1 in
    let few : or_zero n ≤ 256 = omega (arith, h, grown_too (or_zero n) (size_of_grid ns) rest) in
    let more : size_of_grid ns ≤ 256 = omega (arith, h, grown (or_zero n) (size_of_grid ns) first) in
    (small_within n parts.0 few, extents_within ns parts.1 more)

grid_within : (ns : List ℤ) → is_grid ns ≡ true → AreWithin ns
grid_within ns e = let parts = both (are_positive ns) (nat_le (size_of_grid ns) 256) e in extents_within ns parts.0 (leb-true (size_of_grid ns) 256 parts.1)

-- ---- points

pub point_of : (rank : ℕ) (is : List ℤ) → 1 ≤ rank → length is ≡ rank → AreWithin is → IsPoint is
point_of rank [] h e w = omega (arith, h, e)
point_of rank (i ∷ is) h e w = w

some_rank : (rank : ℕ) → is_rank rank ≡ true → 1 ≤ rank
some_rank rank e = leb-true 1 rank (both (nat_le 1 rank) (nat_le rank 3) e).0

-- ---- mappings

four : (a b c d : Bool) → a && b && c && d ≡ true → (a ≡ true) × (b ≡ true) × (d ≡ true)
four true true true d e = (refl, refl, e)
four true true false d e = cc
four true false c d e = cc
four false b c d e = cc

five : (a b c d g : Bool) → a && b && c && d && g ≡ true → g ≡ true
five true true true true g e = e
five true true true false g e = cc
five true true false d g e = cc
five true false c d g e = cc
five false b c d g e = cc

six : (a b c d g h : Bool) → a && b && c && d && g && h ≡ true → (a ≡ true) × (b ≡ true) × (c ≡ true) × (h ≡ true)
six true true true true true h e = (refl, refl, refl, e)
six true true true true false h e = cc
six true true true false g h e = cc
six true true false d g h e = cc
six true false c d g h e = cc
six false b c d g h e = cc

pub mapping_written : (rank : ℕ) (m : LayoutMap) → IsMapping rank m → IsMapped m
mapping_written rank whole h = tt
mapping_written rank (block m) h = (
  rectangle_spelled rank m.box h.in_limits,
  grid_within m.grid
      (five (is_rank rank) (length m.box == rank) (length m.grid == rank) (is_box m.box) (is_grid m.grid) h.valid),
)
mapping_written rank (cyclic m) h =
    let parts = four (is_rank rank) (length m.start == rank) (length m.grid == rank) (is_grid m.grid) h.valid in
    (point_of rank m.start (some_rank rank parts.0) (eqb-true (length m.start) rank parts.1) (fit_within m.start h.in_limits), grid_within m.grid parts.2)
mapping_written rank (block_cyclic m) h =
    let parts = six (is_rank rank) (length m.start == rank) (length m.size == rank) (length m.grid == rank) (are_positive m.size) (is_grid m.grid) h.valid in
    let some = some_rank rank parts.0 in (
      point_of rank m.start some (eqb-true (length m.start) rank parts.1) (fit_within m.start h.in_limits.0),
      point_of rank m.size some (eqb-true (length m.size) rank parts.2) (fit_within m.size h.in_limits.1),
      grid_within m.grid parts.3,
    )

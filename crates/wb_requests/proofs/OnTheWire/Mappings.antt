-- What the literal of a mapping stands for, within the limits, is a mapping.
use Rattle.std.proofs.Common.{◌≡◌, ◌==◌, ℕ, ℤ, pos, negsuc, true, ◌&&◌, List, [], ◌∷◌, length, Ok, FitsSigned, w64, subst, arith}
use Rattle.std.proofs.lemmas.Bool.{eqb-true, and_parts}
use Rattle.std.proofs.lemmas.Int.{ints}
use Rattle.std.proofs.lemmas.List.Elements.{All-from_recursion}
use Rattle.std.specs.List.{All, AllByRecursion}
use Rattle.wb_rect.specs.Product.{IsRectangle}
use Rattle.wb_dist.specs.Grid.{is_grid}
use Rattle.wb_dist.specs.Maps.{LayoutMap, whole, block, cyclic, block_cyclic, BlockMap, is_rank, is_box, is_layout}
use Rattle.wb_cells.specs.Layouts.{IsLayout}
use Rattle.wb_literals.specs.Grammar as grammar
use Rattle.wb_literals.specs.Integer.{IsWithin}
use Rattle.wb_literals.specs.Spelling.{IsInteger}
use Rattle.wb_literals.specs.declared.index.IndexLiteral.{IndexLiteral}
use Rattle.wb_literals.specs.declared.index.IndexLiteral.TheVariants.{Integer, Pair, Triple}
use Rattle.wb_literals.specs.declared.mapping.MappingLiteral.{MappingLiteral}
use Rattle.wb_literals.specs.declared.mapping.MappingLiteral.TheVariants.{Whole, Block, Cyclic, BlockCyclic}
use Rattle.wb_literals.specs.Limits.Literals.{domain_within}
use Rattle.wb_literals.specs.Limits.Mappings.{coordinates_of, counts_of, blocks, dealt, dealt_in_blocks, mapping_within}
use Rattle.wb_literals.specs.declared.limits.limit.LimitErr.TheVariants.{BadMapping}
use Rattle.wb_requests.proofs.OnTheWire.Listed.{each_listed, integer_within}
use Rattle.wb_requests.proofs.OnTheWire.Rectangles.{ok_is, each_step, taken, domain_is}

-- ---- coordinates

fits : (z : ℤ) → IsWithin z → FitsSigned w64 z
fits (pos n) h = omega (arith, ints, h)
fits (negsuc n) h = omega (arith, ints, h)

integer_fits : (text : List ℕ) (z : ℤ) → IsInteger text z → FitsSigned w64 z
integer_fits text z h = fits z (integer_within text z h)

pub coordinates_fit : (text : List ℕ) (i : IndexLiteral) → grammar.IsIndex text i → AllByRecursion (FitsSigned w64) (coordinates_of i)
coordinates_fit text (Integer i) h = (integer_fits text i h, tt)
coordinates_fit text (Pair i j) h = each_listed IsInteger (FitsSigned w64) integer_fits h.1 (i ∷ j ∷ []) h.4
coordinates_fit text (Triple i j k) h = each_listed IsInteger (FitsSigned w64) integer_fits h.1 (i ∷ j ∷ k ∷ []) h.4

all_fit : (text : List ℕ) (i : IndexLiteral) → grammar.IsIndex text i → All (FitsSigned w64) (coordinates_of i)
all_fit text i h = All-from_recursion (FitsSigned w64) (coordinates_of i) (coordinates_fit text i h)

-- ---- mappings

box_ranked : (rank : ℕ) (m : BlockMap) → is_layout rank (block m) ≡ true → length m.box ≡ rank
box_ranked rank m h =
    let one = and_parts (is_rank rank && (length m.box == rank) && (length m.grid == rank) && is_box m.box) (is_grid m.grid) h in
    let two = and_parts (is_rank rank && (length m.box == rank) && (length m.grid == rank)) (is_box m.box) one.0 in
    let three = and_parts (is_rank rank && (length m.box == rank)) (length m.grid == rank) two.0 in
    eqb-true (length m.box) rank (and_parts (is_rank rank) (length m.box == rank) three.0).1

blocks_are : (box : List (List ℤ)) (grid : List ℤ) (m : LayoutMap) → IsRectangle (length box) box → blocks box grid ≡ Ok m → IsLayout m
blocks_are box grid m h e =
    let k = taken (is_layout (length grid) (block (record { box = box; grid = grid }))) (block (record { box = box; grid = grid })) m BadMapping e in
    subst IsLayout k.1 (record { valid = k.0; in_limits = subst (λ n. IsRectangle n box) (box_ranked (length grid) (record { box = box; grid = grid }) k.0) h })

dealt_is : (start grid : List ℤ) (m : LayoutMap) → All (FitsSigned w64) start → dealt start grid ≡ Ok m → IsLayout m
dealt_is start grid m h e =
    let k = taken (is_layout (length grid) (cyclic (record { start = start; grid = grid }))) (cyclic (record { start = start; grid = grid })) m BadMapping e in
    subst IsLayout k.1 (record { valid = k.0; in_limits = h })

dealt_in_blocks_is : (start size grid : List ℤ) (m : LayoutMap) → All (FitsSigned w64) start → All (FitsSigned w64) size
    → dealt_in_blocks start size grid ≡ Ok m → IsLayout m
dealt_in_blocks_is start size grid m h g e =
    let made : LayoutMap = block_cyclic (record { start = start; size = size; grid = grid }) in
    let k = taken (is_layout (length grid) made) made m BadMapping e in
    subst IsLayout k.1 (record { valid = k.0; in_limits = (h, g) })

pub mapping_is : (text : List ℕ) (l : MappingLiteral) (m : LayoutMap) → grammar.IsMapping text l → mapping_within l ≡ Ok m → IsLayout m
mapping_is text Whole m h e = subst IsLayout (ok_is whole m e) tt
mapping_is text (Block box grid) m h e =
    let x = each_step (domain_within box) (λ ranges. blocks ranges (counts_of grid)) m e in
    blocks_are x.0 (counts_of grid) m (domain_is box x.0 x.1) x.2
mapping_is text (Cyclic start grid) m h e = dealt_is (coordinates_of start) (counts_of grid) m (all_fit h.1 start h.4) e
mapping_is text (BlockCyclic start size grid) m h e =
    dealt_in_blocks_is (coordinates_of start) (coordinates_of size) (counts_of grid) m (all_fit h.1 start h.6) (all_fit h.3 size h.8) e

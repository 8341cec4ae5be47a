use Rattle.std.proofs.Common.{◌≡◌, ◌<◌, ℤ, List, Some, None, length, slice_get, sym, ap, arith, ◌∙◌}
use Rattle.wb_cells.specs.declared.values.index.Index.{Index}
use Rattle.wb_cells.specs.Shapes.{indices}
use Rattle.wb_elements.proofs.Blocks.{each_entry, many_each, none_at}
use Rattle.wb_elements.proofs.block.RectangleNumbersChangeBlock.entry.Goals as goal

pub returns : goal.returns
returns c =
    let b = c.args.self.now in
    let k = c.args.at in
    let i : Index = c.in-Some.index in
    let at : slice_get (indices b.ranges) k ≡ Some i =
    ap (λ (rs : List (List ℤ)). slice_get (indices rs) k) (sym c.ranges-2.ensures) ∙ sym c.in-Some.ensures in
    each_entry b.ranges b.numbers.items k i c.number_at.result c.requires at
    (c.number_at.ensures ∙ ap (λ (ns : List ℤ). slice_get ns k) c.numbers.ensures)

pub unreachable-requires : goal.unreachable-requires
unreachable-requires c =
    let b = c.args.self.now in
    let k = c.args.at in
    let at : slice_get (indices b.ranges) k ≡ None =
    ap (λ (rs : List (List ℤ)). slice_get (indices rs) k) (sym c.ranges-2.ensures) ∙ sym c.in-None.ensures in
    let low : k < length (indices b.ranges) = omega (arith, c.requires, many_each b.ranges b.numbers.items) in
    none_at (indices b.ranges) k at low

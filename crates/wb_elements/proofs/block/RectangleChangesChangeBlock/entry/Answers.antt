use Rattle.std.proofs.Common.{◌≡◌, ℤ, List, Option, Some, slice_get, get_or, sym, ap, subst, ◌∙◌}
use Rattle.wb_cells.specs.declared.values.index.Index.{Index}
use Rattle.wb_cells.specs.declared.values.index.Index.TheVariants.{Point}
use Rattle.wb_cells.specs.Runs.{rectangle_entries}
use Rattle.wb_cells.specs.Shapes.{indices}
use Rattle.wb_elements.specs.Piecewise.Marked.{as_changes}
use Rattle.wb_elements.proofs.Blocks.{same_entry}
use Rattle.wb_elements.proofs.block.RectangleChangesChangeBlock.entry.Goals as goal

pub returns : goal.returns
returns c =
    let b = c.args.self.now in
    let k = c.args.at in
    let i : Index = c.in-Some.index in
    let at : slice_get (indices b.ranges) k ≡ Some i =
    ap (λ (rs : List (List ℤ)). slice_get (indices rs) k) (sym c.ranges-2.ensures) ∙ sym c.in-Some.ensures in
    subst (λ (n : Option ℤ). (i, n) ≡ get_or (as_changes Point (rectangle_entries b.ranges b.number)) k (i, n)) (sym c.number.ensures)
    (same_entry b.ranges b.number k i at)

use Rattle.std.proofs.Common.{map, sym, ap, ◌∙◌}
use Rattle.std.specs.List.{list_any}
use Rattle.wb_cells.specs.declared.values.index.Index.TheVariants.{Point}
use Rattle.wb_cells.specs.Runs.{packed_changes, rectangle_entries}
use Rattle.wb_rect.specs.Product.{product}
use Rattle.wb_footprints.specs.Footprints.{run_cells, cells_of}
use Rattle.wb_footprints.proofs.Rows.{cells_at, packed_cells, firsts_of_rectangle}
use Rattle.wb_footprints.proofs.places.runs.rectangle_run.Goals as goal

pub returns : goal.returns
returns c = λ f.
    let r = c.args.rectangle.now in
    let row = c.row.result.now in
    let es = rectangle_entries r.ranges r.number in
    let ps = product r.ranges in
    cells_at (packed_changes r.row es) row Point ps c.within.result
    (ap (λ x. cells_of (packed_changes x es)) (sym c.row.ensures) ∙ packed_cells row es
    ∙ ap (λ qs. run_cells row (map Point qs)) (firsts_of_rectangle r.number ps))
    (λ g. c.within.ensures g ∙ ap (λ rs. list_any g (product rs)) c.ranges-2.ensures) f
    ∙ ap (λ xs. list_any f (run_cells row xs)) (sym c.points.ensures)

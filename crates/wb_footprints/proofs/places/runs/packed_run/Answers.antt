use Rattle.std.proofs.Common.{map, sym, ap, ◌∙◌}
use Rattle.std.specs.List.{list_any}
use Rattle.wb_cells.specs.declared.values.index.Index.TheVariants.{Point}
use Rattle.wb_cells.specs.Runs.{packed_changes}
use Rattle.wb_footprints.specs.Footprints.{run_cells, cells_of}
use Rattle.wb_footprints.proofs.Rows.{cells_at, packed_cells}
use Rattle.wb_footprints.proofs.places.runs.packed_run.Goals as goal

pub returns : goal.returns
returns g c = λ f.
    let row = c.row.result.now in
    let p = c.args.packed.now in
    let es = p.changes.items in
    cells_at (packed_changes p.row es) row Point (map (λ e. e.0) es) c.in_ok-points.points
    (ap (λ x. cells_of (packed_changes x es)) (sym c.row.ensures) ∙ packed_cells row es)
    (λ t. c.in_ok-points.ensures t ∙ ap (λ xs. list_any t (map (λ e. e.0) xs)) c.changes.ensures) f
    ∙ ap (λ xs. list_any f (run_cells row xs)) (sym c.points.ensures)

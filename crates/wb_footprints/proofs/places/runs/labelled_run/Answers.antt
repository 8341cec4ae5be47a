use Rattle.std.proofs.Common.{map, sym, ap, ◌∙◌}
use Rattle.std.specs.List.{list_any}
use Rattle.wb_cells.specs.declared.values.index.Index.TheVariants.{Text}
use Rattle.wb_cells.specs.Runs.{labelled_changes}
use Rattle.wb_footprints.specs.Footprints.{run_cells, cells_of}
use Rattle.wb_footprints.proofs.Rows.{cells_at, labelled_cells}
use Rattle.wb_footprints.proofs.places.runs.labelled_run.Goals as goal

pub returns : goal.returns
returns c = λ f.
    let row = c.row.result.now in
    let l = c.args.changes.now in
    cells_at (labelled_changes l.0 l.1) row Text (map (λ e. e.0) l.1) c.in_ok-labels.labels
    (ap (λ x. cells_of (labelled_changes x l.1)) (sym c.row.ensures) ∙ labelled_cells row l.1)
    (λ t. c.in_ok-labels.ensures t ∙ ap (list_any t) c.in_ok-list.ensures) f
    ∙ ap (λ xs. list_any f (run_cells row xs)) (sym c.labels.ensures)

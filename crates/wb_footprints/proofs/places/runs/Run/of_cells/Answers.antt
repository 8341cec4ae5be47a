use Rattle.std.proofs.Common.{sym, ap, ◌∙◌}
use Rattle.std.specs.List.{list_any}
use Rattle.wb_cells.specs.Runs.{changes_in}
use Rattle.wb_footprints.specs.Footprints.{at_cell, cells_of}
use Rattle.wb_footprints.proofs.RunPlaces.{any_cell}
use Rattle.wb_footprints.proofs.places.runs.Run.of_cells.Goals as goal

pub returns-clause-marked : goal.returns-clause-marked
returns-clause-marked c = λ m q.
    let run = c.in_ok-run.run' in
    any_cell (λ x. at_cell m x q) (changes_in c.args.cells.now.form) run.row run.indices
    (λ t. ap (λ f. list_any t (cells_of (changes_in f))) (sym c.form.ensures) ∙ c.in_ok-run.ensures t)

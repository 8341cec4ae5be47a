use Rattle.std.proofs.Common.{sym, ap, ◌∙◌}
use Rattle.std.specs.List.{list_any}
use Rattle.wb_cells.specs.declared.values.index.Index.TheVariants.{Point, Text}
use Rattle.wb_footprints.specs.HeldIndices.{indices_of}
use Rattle.wb_footprints.proofs.Meeting.{any_map}
use Rattle.wb_footprints.proofs.questions.swept.SweptCells.new_indices.Goals as goal

pub returns-in_ok-points_left-in-Points : goal.returns-in_ok-points_left-in-Points
returns-in_ok-points_left-in-Points c = λ f fails.
    ap (list_any f) c.points.ensures
    ∙ any_map f Point c.in_ok-points_left-in-Points.points_left
    ∙ c.in_ok-points_left-in-Points.ensures f fails
    ∙ sym (any_map f Point c.in-Points.points)
    ∙ ap (list_any f) (sym (ap indices_of c.in-Points.is) ∙ c.held.ensures)

pub returns-in_ok-labels_left-in-Labels : goal.returns-in_ok-labels_left-in-Labels
returns-in_ok-labels_left-in-Labels c = λ f fails.
    ap (list_any f) c.labels.ensures
    ∙ any_map f Text c.in_ok-labels_left-in-Labels.labels_left
    ∙ c.in_ok-labels_left-in-Labels.ensures f fails
    ∙ sym (any_map f Text c.in-Labels.labels)
    ∙ ap (list_any f) (sym (ap indices_of c.in-Labels.is) ∙ c.held.ensures)

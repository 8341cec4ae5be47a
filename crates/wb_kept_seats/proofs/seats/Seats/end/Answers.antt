use Rattle.std.proofs.Common.{ℕ, List, [], ◌∷◌, ◌++◌, refl, ap, ◌∙◌}
use Rattle.wb_kept_seats.specs.KeptCourses.{kept_course}
use Rattle.wb_kept_seats.proofs.Fronts.{kept_ended}
use Rattle.wb_kept_seats.proofs.seats.Seats.end.Goals as goal

pub invariant_of-self : goal.invariant_of-self
invariant_of-self g c =
    let was = c.self.inside in
    let added = c.in-Ok.ensures.made in
    kept_ended g.L.Opening.opening.history g.L.KeptOpening.lines (kept_course was.shared was.turns was.changes was.is_open)
    (kept_course was.shared c.add.new.self c.replace-changes.new.dest was.is_open) c.self.invariant c.if-not-self.false refl
    (ap (λ w. w.1) added.1 ∙ added.0 ∙ ap (λ (turn : List (List ℕ)). was.turns.1 ++ turn ∷ []) c.replace-changes.ensures.value)
    (c.replace-changes.ensures.after ∙ c.new.ensures)

use Rattle.std.proofs.Common.{true, ap}
use Rattle.wb_kept_seats.specs.KeptCourses.{kept_course}
use Rattle.wb_kept_seats.proofs.Fronts.{kept_opened}
use Rattle.wb_kept_seats.proofs.seats.Seats.open_at.Goals as goal

pub invariant_of-seats : goal.invariant_of-seats
invariant_of-seats g c =
    let turns = c.open-turns in
    kept_opened g.L.Opening.opening.history c.args.history g.L.KeptOpening.lines c.args.seats
    (kept_course c.in-Ok.opened.0 turns.result.0 c.new.result true) c.requires.opening c.requires.leads c.in-Ok.ensures.opened
    (ap (λ w. w.1) turns.ensures.waiting) c.new.ensures

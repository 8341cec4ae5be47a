use Rattle.std.proofs.Common.{[], inl, inr, refl, rules}
use Rattle.std.proofs.KnownBytes.{Appends-nil}
use Rattle.wb_seats.proofs.Ending.{disagrees, is_day}
use Rattle.wb_seats.proofs.serving.serve_day.Goals as goal

pub returns-in-Err-default-BadSeats-clause-prints : goal.returns-in-Err-default-BadSeats-clause-prints
returns-in-Err-default-BadSeats-clause-prints g c =
    ([], search rules, inr (refl, inl (refl, c.in-Err-default-BadSeats.ensures.bad.0 (search rules))))

pub returns-in-Err-clause-prints : goal.returns-in-Err-clause-prints
returns-in-Err-clause-prints g c = ([], Appends-nil _, inr (refl, inr c.in-Err.ensures.fault))

pub returns-clause-failed : goal.returns-clause-failed
returns-clause-failed g c h =
    let left = c.in-Err-settle.field-0 in
    let told = c.in-Err-settle.ensures in
    inr (inr (disagrees g.I.Source g.O.Sink g.N.Accepts g.L.Opening.opening g.L.Opening.seats c.args.seats left.shared.course
    c.in-Ok.made.1.items c.in-Ok-serve_all.passes.items left.cause c.requires.seats c.in-Ok.ensures.ok.1 c.in-Ok-serve_all.ensures.ok
    told.course told.seats told.cause))

pub returns-in-Ok-settle-clause-prints : goal.returns-in-Ok-settle-clause-prints
returns-in-Ok-settle-clause-prints g c =
    let told = c.in-Ok-settle.ensures in
    let prints = c.print_settled.ensures.prints in (
      prints.0,
      prints.1,
      inl (
        c.in-Ok-settle.shared.course,
        is_day g.I.Source g.O.Sink g.N.Accepts g.L.Opening.opening g.L.Opening.seats
            c.args.seats c.in-Ok-settle.shared.course c.in-Ok.made.1.items c.in-Ok-serve_all.passes.items c.requires.seats c.in-Ok.ensures.ok.1
            c.in-Ok-serve_all.ensures.ok told.course told.seats told.ok,
        prints.2,
      ),
    )

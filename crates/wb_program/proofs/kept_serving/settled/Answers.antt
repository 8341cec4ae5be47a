use Rattle.std.proofs.Common.{[], false, inl, inr, refl, subst}
use Rattle.std.proofs.KnownBytes.{Appends-nil}
use Rattle.wb_desk.specs.Serving.{new_passes}
use Rattle.wb_seats.specs.Serving.{PrintsSettled}
use Rattle.wb_seats.proofs.Ending.{is_day}
use Rattle.wb_program.proofs.KeptEnding.{not_settled}
use Rattle.wb_program.proofs.kept_serving.settled.Goals as goal

pub returns-in-Ok-clause-ends : goal.returns-in-Ok-clause-ends
returns-in-Ok-clause-ends g c =
    let told = c.in-Ok.ensures in
    let prints = c.print_settled-status.ensures.prints in
    let k = c.in-Ok.done.seats in (
      prints.0,
      prints.1,
      inl (record {
        left = k;
        log = c.in-Ok.done.log;
        leaves = record { is_course = told.course; so_many = told.seats; any_moment = told.any_moment; is_file = refl };
        day = is_day g.I.Source g.O.Sink g.N.Accepts g.L.Opening.opening g.L.Opening.seats g.L.Opening.seats k.course (new_passes g.L.Opening.seats)
            c.args.passes.items refl refl c.requires.back told.course told.seats told.ok;
        kept = told.kept;
        prints = subst (λ x. PrintsSettled false x c.print_settled-status.result prints.0) c.shared.ensures.course prints.2;
        is_fault = refl;
      }),
    )

pub returns-in-Err-clause-ends : goal.returns-in-Err-clause-ends
returns-in-Err-clause-ends g c = ([], Appends-nil _, inr c.broken_off.ensures.off)

pub returns-in-Err-clause-failed : goal.returns-in-Err-clause-failed
returns-in-Err-clause-failed g c h =
    let left = c.in-Err.left in
    let told = c.in-Err.ensures in
    not_settled g.I.Source g.O.Sink g.N.Accepts g.D.Device g.L.Opening.opening g.L.Opening.seats left.seats c.args.passes.items left.cause
    c.status_of_cause.result c.broken_off.result _ c.requires.back told.course told.seats told.cause c.status_of_cause.ensures.passes
    (c.broken_off.ensures.cause h)

pub after-requires : goal.after-requires
after-requires g c h = let failed = c.in-Err.ensures.disk h in (failed.0.device, c.in-Err.left.log.device, failed.1)

use Rattle.std.proofs.Common.{inl, rules, ◌∙◌}
use Rattle.std.proofs.KnownBytes.{Appends-nil}
use Rattle.wb_statuses.proofs.Sent.{told_front, told_whole}
use Rattle.wb_program.specs.Stays.{listening_at}
use Rattle.wb_program.proofs.stays.landing.land.Goals as goal

pub returns-in-Err-clause-fault : goal.returns-in-Err-clause-fault
returns-in-Err-clause-fault g c = (c.in-Err.ensures.fault, (0, 0, Appends-nil _))

pub returns-in-Err-clause-failed : goal.returns-in-Err-clause-failed
returns-in-Err-clause-failed g c h = inl (c.in-Err.ensures.failed h)

pub returns-then-told-eq-DONE-clause-told : goal.returns-then-told-eq-DONE-clause-told
returns-then-told-eq-DONE-clause-told g c =
    let told = c.tell-told.ensures.told in
    let line = c.in-Ok.ensures.line in (
      line.0,
      told_whole _ _ c.as_str.result.now (listening_at c.args.place.now line.0) told.0 c.tell-told.result (search rules)
          (c.as_str.ensures.value ∙ line.1) told.1 told.2,
    )

pub returns-clause-fault : goal.returns-clause-fault
returns-clause-fault g c =
    let told = c.tell-told.ensures.told in
    let line = c.in-Ok.ensures.line in
    let front = told_front _ _ c.as_str.result.now (listening_at c.args.place.now line.0) told.0 c.tell-told.result (λ e. absurd (search rules))
    (c.as_str.ensures.value ∙ line.1) told.1 told.2 in
    (front.0, (line.0, front.1.0, front.1.1))

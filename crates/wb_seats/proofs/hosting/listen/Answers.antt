use Rattle.std.proofs.Common.{inl, inr, refl, rules, ◌∙◌}
use Rattle.std.proofs.KnownBytes.{Appends-nil}
use Rattle.wb_seats.specs.Hosting.{listening}
use Rattle.wb_statuses.proofs.Sent.{told_front, told_whole}
use Rattle.wb_seats.proofs.hosting.listen.Goals as goal

pub returns-in-Err-Failed-clause-fault : goal.returns-in-Err-Failed-clause-fault
returns-in-Err-Failed-clause-fault g c = (inl refl, (0, 0, Appends-nil _))

pub returns-in-Err-NoMemory-clause-fault : goal.returns-in-Err-NoMemory-clause-fault
returns-in-Err-NoMemory-clause-fault g c = (search rules, (0, 0, Appends-nil _))

pub returns-in_default-clause-fault : goal.returns-in_default-clause-fault
returns-in_default-clause-fault g c = (inr refl, (0, 0, Appends-nil _))

pub returns-then-told-eq-DONE-clause-told : goal.returns-then-told-eq-DONE-clause-told
returns-then-told-eq-DONE-clause-told g c =
    let told = c.tell-told.ensures.told in (
      c.in-Ok.bound.1,
      told_whole _ _ c.as_str.result.now (listening c.in-Ok.bound.1) told.0 c.tell-told.result (search rules)
          (c.as_str.ensures.value ∙ c.in-Ok-format.ensures.ok) told.1 told.2,
    )

pub returns-clause-fault : goal.returns-clause-fault
returns-clause-fault g c =
    let told = c.tell-told.ensures.told in
    let front = told_front _ _ c.as_str.result.now (listening c.in-Ok.bound.1) told.0 c.tell-told.result (λ e. absurd (search rules))
    (c.as_str.ensures.value ∙ c.in-Ok-format.ensures.ok) told.1 told.2 in
    (front.0, (c.in-Ok.bound.1, front.1.0, front.1.1))

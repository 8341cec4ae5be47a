use Rattle.std.proofs.Common.{◌++◌, inl, inr, refl}
use Rattle.std.proofs.KnownBytes.{Appends-trans}
use Rattle.wb_statuses.proofs.Faults.{no_fault_of_0}
use Rattle.wb_program.specs.Stays.{listening_at}
use Rattle.wb_program.proofs.stays.staying.stay.Goals as goal

pub returns-in-Ok-clause-hosts : goal.returns-in-Ok-clause-hosts
returns-in-Ok-clause-hosts g c =
    let told = c.in-Ok.ensures.told in
    let day = c.lend_on.ensures.prints in
    let line = listening_at c.args.asked.now.place told.0 in
    (line ++ day.0, Appends-trans _ _ _ line day.0 told.1 day.1, inl (told.0, day.0, refl, day.2))

pub returns-in-Err-clause-hosts : goal.returns-in-Err-clause-hosts
returns-in-Err-clause-hosts g c = let front = c.in-Err.ensures.fault in (_, front.1.2, inr (front.0, (front.1.0, front.1.1, refl)))

pub returns-in-Ok-clause-failed : goal.returns-in-Ok-clause-failed
returns-in-Ok-clause-failed g c h = inr (c.lend_on.ensures.failed h)

pub returns-in-Err-clause-flushed : goal.returns-in-Err-clause-flushed
returns-in-Err-clause-flushed g c h = absurd (no_fault_of_0 _ h c.in-Err.ensures.fault.0)

pub returns-in-Err-clause-failed : goal.returns-in-Err-clause-failed
returns-in-Err-clause-failed g c h = elim (c.in-Err.ensures.failed h) [
  | inl port ↦ inl port
  | inr write ↦ inr (inr (inl write))
]

use Rattle.std.proofs.Common.{◌++◌, inl, inr, refl}
use Rattle.std.proofs.KnownBytes.{Appends-trans}
use Rattle.wb_seats.specs.Hosting.{listening}
use Rattle.wb_seats.proofs.PortNotTold.{not_told}
use Rattle.wb_statuses.proofs.Faults.{no_fault_of_0}
use Rattle.wb_seats.proofs.hosting.host.Goals as goal

pub returns-in-Ok-clause-hosts : goal.returns-in-Ok-clause-hosts
returns-in-Ok-clause-hosts g c =
    let told = c.in-Ok.ensures.told in
    let day = c.serve_on.ensures.prints in
    (listening told.0 ++ day.0, Appends-trans _ _ _ (listening told.0) day.0 told.1 day.1, inl (told.0, day.0, refl, day.2))

pub returns-in-Err-clause-hosts : goal.returns-in-Err-clause-hosts
returns-in-Err-clause-hosts g c = let front = c.in-Err.ensures.fault in (_, front.1.2, inr (front.0, (front.1.0, front.1.1, refl)))

pub returns-in-Ok-clause-failed : goal.returns-in-Ok-clause-failed
returns-in-Ok-clause-failed g c h = inr (c.serve_on.ensures.failed h)

pub returns-in-Err-clause-flushed : goal.returns-in-Err-clause-flushed
returns-in-Err-clause-flushed g c h = absurd (no_fault_of_0 _ h c.in-Err.ensures.fault.0)

pub returns-in-Err-clause-failed : goal.returns-in-Err-clause-failed
returns-in-Err-clause-failed g c h =
    not_told g.I.Source g.O.Sink g.N.Accepts _ _ _ _ (c.in-Err.ensures.failed h)

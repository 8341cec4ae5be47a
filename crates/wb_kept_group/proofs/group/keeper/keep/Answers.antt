use Rattle.std.proofs.Common.{◌≡◌, Some, Err, ap}
use Rattle.wb_kept_group.specs.declared.group.keeper.KeepErr.TheVariants.{Failed}
use Rattle.wb_kept_group.proofs.group.keeper.keep.Goals as goal

pub returns-in-Some-Err-clause-failed : goal.returns-in-Some-Err-clause-failed
returns-in-Some-Err-clause-failed g c error is =
    let same : c.in-Some-Err.field-0 ≡ Err (Failed error) = cc is in
    c.in-Some-Err.ensures.failed error (ap (λ r. Some r) same)

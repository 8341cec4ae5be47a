use Rattle.std.proofs.Common.{◌≡◌, Err}
use Rattle.wb_kept_group.specs.declared.group.keeper.KeepErr.TheVariants.{Failed}
use Rattle.wb_kept_group.proofs.group.keeper.keep_if_free.Goals as goal

pub returns-clause-failed : goal.returns-clause-failed
returns-clause-failed g c error is =
    let same : c.keep-kept.result ≡ Err (Failed error) = cc is in
    let failed = c.keep-kept.ensures.failed error same in
    let old = c.deref_mut.result.now in
    ((old.store, old.turns), failed.0, (_, failed.1.0, failed.1.1, failed.1.2))

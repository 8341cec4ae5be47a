use Rattle.std.proofs.Common.{subst, sym}
use Rattle.std.proofs.lemmas.Result.{on_ok_weaker}
use Rattle.wb_footprints.specs.Footprints.{IsIndexOf, with_footprint}
use Rattle.wb_log.specs.Records.{value_before}
use Rattle.wb_log.proofs.index.by_footprint.add_entry.Goals as goal

pub returns-in-Some-clause-ok : goal.returns-in-Some-clause-ok
returns-in-Some-clause-ok c = on_ok_weaker c.add_set.result
    (λ h footprints was none. subst (λ o. IsIndexOf c.add_set.new.self (with_footprint footprints c.args.number o)) (sym c.in-Some.ensures)
    (h footprints (value_before c.in-Some.set.1) was none)) c.add_set.ensures.ok

use Rattle.std.proofs.Common.{option_map, subst, sym, ap, ◌∙◌}
use Rattle.std.proofs.lemmas.Result.{on_ok_weaker}
use Rattle.wb_footprints.specs.Footprints.{IsIndexOf, with_footprint}
use Rattle.wb_log.specs.Kept.{kept_in}
use Rattle.wb_log.specs.Records.{lent_kept}
use Rattle.wb_log.proofs.Entered.{none_comes}
use Rattle.wb_log.proofs.Lists.{index_like}
use Rattle.wb_log.proofs.index.by_footprint.add_any.Goals as goal

pub returns-in-None-clause-ok : goal.returns-in-None-clause-ok
returns-in-None-clause-ok c = λ footprints was none.
    let o = kept_in c.args.entry.now in
    let off = sym c.kept.ensures ∙ ap (option_map lent_kept) c.in-None.is in
    index_like c.args.index.now footprints (with_footprint footprints c.args.number o) (λ n. none_comes footprints c.args.number o n off none) was

pub returns-in-Some-clause-ok : goal.returns-in-Some-clause-ok
returns-in-Some-clause-ok c =
    let now = c.add_kept.new.index in
    let here = sym (ap (option_map lent_kept) c.in-Some.is) ∙ c.kept.ensures in
    on_ok_weaker c.add_kept.result
    (λ h footprints was none. subst (λ o. IsIndexOf now (with_footprint footprints c.args.number o)) here (h footprints was none)) c.add_kept.ensures.ok

use Rattle.std.proofs.Common.{sym, ap, subst, ◌∙◌}
use Rattle.std.proofs.lemmas.Result.{on_ok_weaker}
use Rattle.wb_log.specs.Indexed.{Indexes}
use Rattle.wb_log.specs.Kept.{kept_in}
use Rattle.wb_log.proofs.steps.undo.take_back.Goals as goal

pub returns-then-set_back-clause-taken : goal.returns-then-set_back-clause-taken
returns-then-set_back-clause-taken g c = c.set_back.ensures.taken c.if-set_back.true

pub returns-clause-taken : goal.returns-clause-taken
returns-clause-taken g c =
    let same = c.set_back.ensures.index_stays c.if-set_back.false in
    let entry = c.set_back.ensures.entry_stays c.if-set_back.false in
    on_ok_weaker c.take_back_listed.result
    (λ h count footprints had is. h count footprints (subst (λ i. Indexes i count footprints) (sym same) had) (is ∙ ap kept_in (sym entry)))
    c.take_back_listed.ensures.taken

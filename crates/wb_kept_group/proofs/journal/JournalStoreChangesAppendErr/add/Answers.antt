use Rattle.std.proofs.Common.{◌≡◌, ◌++◌, ap, ◌∙◌}
use Rattle.std.proofs.lemmas.Result.{on_ok_weaker}
use Rattle.wb_keep.specs.Lines.{lines_of}
use Rattle.wb_kept_group.specs.Together.{changes_in}
use Rattle.wb_kept_group.proofs.Joining.{lines_behind, tells_truly}
use Rattle.wb_kept_group.proofs.journal.JournalStoreChangesAppendErr.add.Goals as goal

pub returns-clause-kept : goal.returns-clause-kept
returns-clause-kept g c before has =
    let all : lines_of c.as_text.result.now ≡ changes_in c.args.turns.now = c.as_text.ensures ∙ c.in_ok-all.ensures in
    on_ok_weaker c.append_ahead.result (λ kept. (kept.0, kept.1 ∙ ap (λ ls. ls ++ lines_of c.as_text.result.now) has.1 ∙ ap (λ ls. (g.O.Opening.opening ++ changes_in before) ++ ls) all ∙ lines_behind g.O.Opening.opening before c.args.turns.now)) c.append_ahead.ensures.acknowledged

pub returns-clause-cause : goal.returns-clause-cause
returns-clause-cause g c =
    let kept = c.append_ahead.ensures in
    tells_truly g.D.Device.faults c.append_ahead.result c.args.self.now.log c.append_ahead.new.self kept.memory kept.failed kept.full kept.no_room

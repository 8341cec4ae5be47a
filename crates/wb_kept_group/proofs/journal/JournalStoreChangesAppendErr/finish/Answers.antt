use Rattle.std.proofs.Common.{◌≡◌, ◌++◌, ◌∙◌}
use Rattle.wb_keep.specs.Lines.{lines_of}
use Rattle.wb_kept_group.specs.Together.{changes_in}
use Rattle.wb_kept_group.proofs.Joining.{last_moments}
use Rattle.wb_kept_group.proofs.journal.JournalStoreChangesAppendErr.finish.Goals as goal

pub returns-in_err-close-clause-any_moment : goal.returns-in_err-close-clause-any_moment
returns-in_err-close-clause-any_moment g c before has =
    let D = g.D.Device in
    let all : lines_of c.as_text.result.now ≡ changes_in c.args.turns.now = c.as_text.ensures ∙ c.in_ok-all.ensures in
    let added = c.in_ok-append.ensures.acknowledged in
    last_moments D.seen D.may_leave D.moment D.left_since c.args.self.now.log c.append.new.self c.close.new.self.device _ (g.O.Opening.opening ++ changes_in before) _ (changes_in c.args.turns.now)
    added.0 added.1 has.1 all c.append.ensures.any_moment c.close.ensures.any_moment

pub returns-clause-any_moment : goal.returns-clause-any_moment
returns-clause-any_moment g c before has =
    let D = g.D.Device in
    let all : lines_of c.as_text.result.now ≡ changes_in c.args.turns.now = c.as_text.ensures ∙ c.in_ok-all.ensures in
    let added = c.in_ok-append.ensures.acknowledged in
    last_moments D.seen D.may_leave D.moment D.left_since c.args.self.now.log c.append.new.self c.close.new.self.device _ (g.O.Opening.opening ++ changes_in before) _ (changes_in c.args.turns.now)
    added.0 added.1 has.1 all c.append.ensures.any_moment c.close.ensures.any_moment

use Rattle.std.proofs.Common.{rules, ◌≡◌, ◌∷◌, ◌++◌, [], ◌∙◌, ap}
use Rattle.std.specs.Prelude.{string_bytes}
use Rattle.std.proofs.lemmas.Result.{on_ok_weaker}
use Rattle.wb_keep.proofs.Disks.Moments.{weaker}
use Rattle.wb_keep.specs.Keep.{IsOldOrNew}
use Rattle.wb_keep.specs.Lines.{lines_of, recovered}
use Rattle.wb_keeping.specs.Granting.Beginning.{lines_ask}
use Rattle.wb_keeping.specs.Anew.{HasEdits}
use Rattle.wb_keeping.proofs.Anew.{begun, head_at_rest, old_or_new, one_line, unmoved}
use Rattle.wb_keeping.proofs.compacting.compact.Goals as goal

-- the log was left alone
pub returns-in_default-clause-any_moment : goal.returns-in_default-clause-any_moment
returns-in_default-clause-any_moment g c =
    let D = g.D.Device in
    let d0 = c.args.log.now.device in
    unmoved D.seen D.moment D.left_since D.may_leave d0 c.args.history.now c.requires.settled.file c.requires.settled.durable c.requires.leads (g.met.D.Device.only_now d0)

pub returns-then-is_err-clause-any_moment : goal.returns-then-is_err-clause-any_moment
returns-then-is_err-clause-any_moment g c =
    let D = g.D.Device in
    let d0 = c.args.log.now.device in
    unmoved D.seen D.moment D.left_since D.may_leave d0 c.args.history.now c.requires.settled.file c.requires.settled.durable c.requires.leads (g.met.D.Device.only_now d0)

pub returns-clause-any_moment : goal.returns-clause-any_moment
returns-clause-any_moment g c =
    let line = string_bytes c.in-Ok.line in
    let past = c.args.history.now in
    let D = g.D.Device in
    let old = recovered (D.seen c.args.log.now.device) in
    let ends : c.deref.result.now ≡ line ++ 10 ∷ [] = search rules in
    let one = ap lines_of ends ∙ one_line line c.in-Ok.ensures.unbroken in
    let begins = c.in-Ok.ensures.begins (lines_ask old past c.requires.leads) in
    weaker D.moment D.left_since c.args.log.now.device c.compact.new.self.device (IsOldOrNew old (lines_of c.deref.result.now)) (HasEdits past.entries)
    (old_or_new past line begins old (lines_of c.deref.result.now) c.requires.leads one) c.compact.ensures.any_moment

pub returns-clause-has_edits : goal.returns-clause-has_edits
returns-clause-has_edits g c =
    let line = string_bytes c.in-Ok.line in
    let past = c.args.history.now in
    let file = g.D.Device.seen c.compact.new.self.device in
    let old = recovered (g.D.Device.seen c.args.log.now.device) in
    let ends : c.deref.result.now ≡ line ++ 10 ∷ [] = search rules in
    let one = ap lines_of ends ∙ one_line line c.in-Ok.ensures.unbroken in
    let begins = c.in-Ok.ensures.begins (lines_ask old past c.requires.leads) in
    on_ok_weaker c.compact.result (λ made. begun past line begins file (made.1 ∙ one) (head_at_rest file made.0.file)) c.compact.ensures.compacted

pub returns-clause-one_line : goal.returns-clause-one_line
returns-clause-one_line g c =
    let line = string_bytes c.in-Ok.line in
    let ends : c.deref.result.now ≡ line ++ 10 ∷ [] = search rules in
    on_ok_weaker c.compact.result (λ made. (line, made.1 ∙ (ap lines_of ends ∙ one_line line c.in-Ok.ensures.unbroken))) c.compact.ensures.compacted

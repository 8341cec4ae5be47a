use Rattle.std.proofs.Common.{◌≡◌, ◌+◌, Ok, Err, length, arith, sym, ap, subst, ◌∙◌}
use Rattle.std.proofs.lemmas.List.{length-map}
use Rattle.selective_undo.specs.Edit.{outcome, reads}
use Rattle.wb_edit.specs.Edits.{meaning}
use Rattle.wb_log.specs.Kept.{numbered, plan_refusal}
use Rattle.wb_log.specs.Past.{meant}
use Rattle.wb_log.specs.Replies.{EditReply}
use Rattle.wb_log.proofs.Appended.{cells_seen}
use Rattle.wb_log.proofs.Entries.{refused_edit, accepted_edit}
use Rattle.wb_log.proofs.log.Log.add_planned.Goals as goal

pub keep_new-requires-clause-outcome : goal.keep_new-requires-clause-outcome
keep_new-requires-clause-outcome g c = λ _ _.
    let b = c.self.inside.book in
    let now = cells_seen c.self.inside.entries.items b.cells b.writes c.args.self.now c.self.invariant.shows c.self.view_is in
    ap (outcome (meaning c.args.edit)) (sym now) ∙ c.in-Ok.ensures.0

pub keep_new-requires-clause-reads : goal.keep_new-requires-clause-reads
keep_new-requires-clause-reads g c = λ _ _.
    let b = c.self.inside.book in
    let now = cells_seen c.self.inside.entries.items b.cells b.writes c.args.self.now c.self.invariant.shows c.self.view_is in
    c.in-Ok.ensures.1 ∙ ap (reads (meaning c.args.edit)) now

pub returns-in-Err-clause-reply : goal.returns-in-Err-clause-reply
returns-in-Err-clause-reply g c =
    rw c.plan_refusal.ensures
    (subst (λ p. EditReply (meant p.entries) (meaning c.args.edit) (Err (plan_refusal c.in-Err.stop))) c.self.view_is
    (refused_edit c.self.inside.book.cells c.self.inside.entries.items c.args.edit c.in-Err.stop c.self.invariant.shows c.in-Err.ensures))

pub returns-in-Ok-keep_new-clause-reply : goal.returns-in-Ok-keep_new-clause-reply
returns-in-Ok-keep_new-clause-reply g c =
    let es = c.self.inside.entries.items in
    let k = c.in-Ok-keep_new.number in
    let n = c.in-Ok.count in
    let number : k ≡ length es + 1 =
    omega (arith, c.in-Ok-keep_new.ensures.number, ap (λ p. length p.entries) c.self.view_is, length-map es numbered) in
    subst (λ p. EditReply (meant p.entries) (meaning c.args.edit) (Ok (k, n))) c.self.view_is
    (accepted_edit c.self.inside.book.cells es c.args.edit c.in-Ok.delta k n c.self.invariant.shows c.in-Ok.ensures.0 c.in-Ok.ensures.2 number)

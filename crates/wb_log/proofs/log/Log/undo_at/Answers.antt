use Rattle.std.proofs.Common.{None, Some, Err, subst}
use Rattle.wb_log.specs.Kept.{MayUndo}
use Rattle.wb_log.specs.Past.{meant}
use Rattle.wb_log.specs.Replies.{UndoReply}
use Rattle.wb_log.proofs.Entries.{may_free, refused_reply}
use Rattle.wb_log.proofs.log.Log.undo_at.Goals as goal

pub returns-in-Some-clause-reply : goal.returns-in-Some-clause-reply
returns-in-Some-clause-reply g c =
    let es = c.self.inside.entries.items in
    let at = c.args.at in
    let why = c.in-Some.why in
    let may = subst (λ es. MayUndo es at (Some why)) c.deref.ensures.value c.in-Some.ensures.refusal in
    subst (λ p. UndoReply (meant p.entries) at (Err why)) c.self.view_is
    (refused_reply es at may.0 may.1 c.self.inside.book.cells why c.self.invariant.shows may.2)

pub undo_free-requires-after_bounds : goal.undo_free-requires-after_bounds
undo_free-requires-after_bounds g c = λ _ _.
    let es = c.self.inside.entries.items in
    let may = subst (λ es. MayUndo es c.args.at None) c.deref.ensures.value c.in-None.ensures.refusal in
    may_free es c.args.at may.0 may.1 c.self.inside.book.cells c.self.invariant.shows may

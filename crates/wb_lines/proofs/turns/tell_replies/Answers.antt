use Rattle.std.proofs.Common.{◌≡◌, ◌++◌, ◌∷◌, ◌∙◌, [], length, length-append, append_assoc, append-nil, subst, sym, ap, refl, arith, rules}
use Rattle.std.specs.Io.KnownBytes.{Appends}
use Rattle.std.proofs.KnownBytes.{Appends-nil, Appends-trans}
use Rattle.wb_lines.specs.Turns.{all_texts}
use Rattle.wb_lines.proofs.Answering.{texts_push}
use Rattle.wb_lines.proofs.turns.tell_replies.Goals as goal

pub loop-reply-init : goal.loop-reply-init
loop-reply-init g c = ([], refl, refl, Appends-nil _)

pub overflow_add-told : goal.overflow_add-told
overflow_add-told g c =
    let so_far = c.loop-reply.invariant in
    omega (arith, so_far.2, ap length so_far.1, length-append so_far.0 c.loop-reply.replies.items, c.requires.short)

pub loop-reply-preserved : goal.loop-reply-preserved
loop-reply-preserved g c =
    let so_far = c.loop-reply.invariant in
    let r = c.in-Some.reply in
    let sent = so_far.0 in (
      sent ++ r ∷ [],
      so_far.1 ∙ ap (λ x. sent ++ x) c.in-Some.ensures.items ∙ sym (append_assoc sent (r ∷ []) c.pop_front.new.self.items),
      omega (arith, so_far.2, length-append sent (r ∷ [])),
      subst (λ x. Appends (g.W.Sends.contents c.args.writer.now) (g.W.Sends.contents c.tell_reply.new.writer) x) (sym (texts_push g.M.Tells.text sent r))
          (Appends-trans _ _ _ _ _ so_far.3 c.in-Ok.ensures.ok),
    )

pub returns-in-Err-clause-err : goal.returns-in-Err-clause-err
returns-in-Err-clause-err g c =
    let so_far = c.loop-reply.invariant in
    let part = c.in-Err.ensures.err in (
      so_far.0,
      c.pop_front.new.self.items,
      c.in-Some.reply,
      part.0,
      so_far.1 ∙ ap (λ x. so_far.0 ++ x) c.in-Some.ensures.items,
      so_far.2,
      part.1,
      Appends-trans _ _ _ _ _ so_far.3 part.2,
    )

pub returns-clause-ok : goal.returns-clause-ok
returns-clause-ok g c =
    let so_far = c.loop-reply.invariant in
    let none : c.loop-reply.replies.items ≡ [] = search rules in
    let all = so_far.1 ∙ ap (λ x. so_far.0 ++ x) none ∙ append-nil so_far.0 in (
      subst (λ rs. Appends (g.W.Sends.contents c.args.writer.now) (g.W.Sends.contents c.loop-reply.writer) (all_texts g.M.Tells.text rs)) (sym all) so_far.3,
      so_far.2 ∙ sym (ap length all),
    )

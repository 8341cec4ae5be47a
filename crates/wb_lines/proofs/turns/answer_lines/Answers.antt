use Rattle.std.proofs.Common.{◌∷◌, [], length, length-append, subst, sym, ap, arith}
use Rattle.wb_lines.proofs.Answering.{Asked, asked_line, asked_lost}
use Rattle.wb_lines.proofs.Taking.{pushed}
use Rattle.wb_lines.proofs.turns.answer_lines.Goals as goal

pub returns-then-is_err-clause-err : goal.returns-then-is_err-clause-err
returns-then-is_err-clause-err g c = λ asked t.
    let next = asked_line g.M.Machine.answers g.M.Tells.text g.M.Asks.reads _ _ _ asked c.in-Some.next c.loop-next.taken.items c.pop_front.new.self.items
    c.loop-next.replies.items c.answer_one-reply.result.0 c.in-Some.ensures.items (c.loop-next.invariant.so_far asked t) c.answer_one-reply.ensures.reply in
    asked_lost g.M.Machine.answers g.M.Tells.text g.M.Asks.reads _ _ asked _ _ next

pub returns-then-spent-ge-COST_LIMIT-clause-ok : goal.returns-then-spent-ge-COST_LIMIT-clause-ok
returns-then-spent-ge-COST_LIMIT-clause-ok g c = λ asked t.
    let items = pushed c.push_back.result c.is_err.result _ _ c.answer_one-reply.result.0 c.is_err.ensures.value c.if-is_err.false c.push_back.ensures.items in
    let next = asked_line g.M.Machine.answers g.M.Tells.text g.M.Asks.reads _ _ _ asked c.in-Some.next c.loop-next.taken.items c.pop_front.new.self.items
    c.loop-next.replies.items c.answer_one-reply.result.0 c.in-Some.ensures.items (c.loop-next.invariant.so_far asked t) c.answer_one-reply.ensures.reply in
    let all = subst (λ rs. Asked g.M.Machine.answers g.M.Asks.reads g.M.Tells.text c.args.state.now c.answer_one-reply.new.state asked
    c.pop_front.new.self.items rs) (sym items) next in
    (all.done, all.rest, all.all, all.taken, all.got)

pub loop-next-preserved : goal.loop-next-preserved
loop-next-preserved g c =
    let items = pushed c.push_back.result c.is_err.result _ _ c.answer_one-reply.result.0 c.is_err.ensures.value c.if-is_err.false c.push_back.ensures.items in
    record {
      count = omega (
        arith,
        c.loop-next.invariant.count,
        ap length c.in-Some.ensures.items,
        ap length items,
        length-append c.loop-next.replies.items (c.answer_one-reply.result.0 ∷ []),
      );
      cost = omega (
        arith,
        c.if-spent-ge-COST_LIMIT.false,
        c.saturating_add-spent.ensures,
        c.loop-next.invariant.cost,
        c.answer_one-reply.ensures.spent,
      );
      cheap = c.if-spent-ge-COST_LIMIT.false;
      few = omega (arith, c.answer_one-reply.ensures.answered, c.loop-next.invariant.few, ap length c.in-Some.ensures.items);
      so_far = λ asked t.
          let next = asked_line g.M.Machine.answers g.M.Tells.text g.M.Asks.reads _ _ _ asked c.in-Some.next c.loop-next.taken.items
          c.pop_front.new.self.items c.loop-next.replies.items c.answer_one-reply.result.0 c.in-Some.ensures.items (c.loop-next.invariant.so_far asked t)
          c.answer_one-reply.ensures.reply in
          subst (λ rs. Asked g.M.Machine.answers g.M.Asks.reads g.M.Tells.text c.args.state.now c.answer_one-reply.new.state asked
          c.pop_front.new.self.items rs) (sym items) next;
    }

use Rattle.std.proofs.Common.{◌≡◌, ◌==◌, length, deque_len, subst, arith, rules}
use Rattle.wb_lines.proofs.Answering.{none_left, answering_turn, answering_end, answering_stops}
use Rattle.wb_lines.proofs.turns.answer_taken.Goals as goal

pub loop-alloc-preserved : goal.loop-alloc-preserved
loop-alloc-preserved g c = record {
  count = omega (arith, c.loop-alloc.invariant.count, c.in-Ok.ensures.count);
  free = c.answer_turn.ensures.free;
  unspent = c.answer_turn.ensures.unspent;
  so_far = λ asked t.
      answering_turn g.M.Machine.answers g.M.Asks.reads _ _ _ _ _ _ asked c.loop-alloc.taken.items c.answer_turn.new.taken.items _ _
      (c.loop-alloc.invariant.so_far asked t) c.in-Ok.ensures.ok;
}

pub returns-in-Err-clause-err : goal.returns-in-Err-clause-err
returns-in-Err-clause-err g c = λ asked t.
    answering_stops g.M.Machine.answers g.M.Asks.reads _ _ _ _ _ _ asked c.loop-alloc.taken.items _ _ (c.loop-alloc.invariant.so_far asked t)
    c.in-Err.ensures.err

pub returns-clause-ok : goal.returns-clause-ok
returns-clause-ok g c =
    let same : deque_len c.loop-alloc.taken ≡ length c.loop-alloc.taken.items = search rules in
    let none = none_left c.loop-alloc.taken.items c.is_empty.result (subst (λ n. c.is_empty.result ≡ (n == 0)) same c.is_empty.ensures)
    c.loop-alloc-test.false in
    λ asked t. answering_end g.M.Machine.answers g.M.Asks.reads _ _ _ _ asked c.loop-alloc.taken.items _ none (c.loop-alloc.invariant.so_far asked t)

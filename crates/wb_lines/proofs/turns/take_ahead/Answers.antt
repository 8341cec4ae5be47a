use Rattle.std.proofs.Common.{◌≡◌, ◌++◌, ◌∷◌, [], ◌+◌, ◌≤◌, length, length-append, subst, sym, ap, append_assoc, arith, rules}
use Rattle.wb_lines.specs.Reading.{IsText}
use Rattle.wb_lines.specs.Turns.{AreTaken}
use Rattle.wb_lines.proofs.Taking.{takes_more, taken_push, pushed}
use Rattle.wb_lines.proofs.turns.take_ahead.Goals as goal

pub loop-buffer-preserved : goal.loop-buffer-preserved
loop-buffer-preserved g c =
    let so_far = c.loop-buffer.invariant.1 in
    let next = c.in-Some.ensures.some in
    let old = c.loop-buffer.turn.items in
    let t = c.taken-next.result in
    let items : c.push_back.new.self.items ≡ old ++ t ∷ [] = pushed c.push_back.result c.is_err.result old c.push_back.new.self.items t
    c.is_err.ensures.value c.if-is_err.false c.push_back.ensures.items in
    let room : length old + 1 ≤ 256 = search rules in
    let taken = c.taken-next.ensures next.0 (subst (λ b. IsText c.in-Some.line b next.0) (sym c.line.ensures) next.1) in (
      omega (arith, room, ap length items, length-append old (t ∷ [])),
      (
        so_far.0 ++ next.0 ∷ [],
        takes_more c.args.buffer.now c.loop-buffer.buffer c.ready_line.new.self so_far.0 (next.0 ∷ []) so_far.1 next.2,
        λ first a.
            let both = taken_push g.M.Asks.reads (first ++ so_far.0) old next.0 t (so_far.2 first a) taken in
            subst (λ ts. AreTaken g.M.Asks.reads (first ++ (so_far.0 ++ next.0 ∷ [])) ts) (sym items)
            (subst (λ ls. AreTaken g.M.Asks.reads ls (old ++ t ∷ [])) (append_assoc first so_far.0 (next.0 ∷ [])) both),
      ),
    )

pub returns-then-is_err-clause-taken : goal.returns-then-is_err-clause-taken
returns-then-is_err-clause-taken g c =
    let so_far = c.loop-buffer.invariant.1 in
    let next = c.in-Some.ensures.some in
    (so_far.0 ++ next.0 ∷ [], takes_more c.args.buffer.now c.loop-buffer.buffer c.ready_line.new.self so_far.0 (next.0 ∷ []) so_far.1 next.2, tt)

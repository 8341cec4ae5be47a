use Rattle.std.proofs.Common.{◌≡◌, ◌<◌, ◌≤◌, length, arith, rules}
use Rattle.wb_desk.proofs.Differences.{take_more_alike, left_longer, right_longer}
use Rattle.wb_desk.proofs.records.first_difference.Goals.{then-loop-place-test+else-place-len, else-loop-place-test}
use Rattle.wb_desk.proofs.records.first_difference.Goals.{then-place-len-2-via-then-place-len-2, then-place-len-2-via-else-place-len-2+then-place-len-3}
use Rattle.wb_desk.proofs.records.first_difference.Goals as goal

pub loop-place-preserved : goal.loop-place-preserved
loop-place-preserved c =
    let left : c.loop-place.place < length c.args.entries.now = omega (arith, c.len.ensures, c.loop-place-test.true) in
    let right : c.loop-place.place < length c.args.own.now = omega (arith, c.len-in-loop-place.ensures, c.if-place-len.true) in
    (take_more_alike c.args.entries.now c.args.own.now c.loop-place.place left right c.loop-place.invariant.0 (search rules), omega arith, omega arith)

pub returns-then-place-len-2 : goal.returns-then-place-len-2
returns-then-place-len-2 c = (
  c.loop-place.invariant.0,
  λ same.
      elim c.loop-place-test.branch [
        | then-loop-place-test+else-place-len w ↦
            left_longer c.args.entries.now c.args.own.now c.loop-place.place
            (omega (arith, w.len-in-loop-place.ensures, w.if-place-len.false))
            (omega (arith, c.len.ensures, w.loop-place-test.true)) same
        | else-loop-place-test w ↦
            elim c.then-place-len-2.branch [
              | then-place-len-2-via-then-place-len-2 v ↦
                  omega (arith, c.len.ensures, c.len-2.ensures, w.loop-place-test.false, v.if-place-len-2.true)
              | then-place-len-2-via-else-place-len-2+then-place-len-3 v ↦
                  right_longer c.args.entries.now c.args.own.now c.loop-place.place
                  (omega (arith, c.len.ensures, w.loop-place-test.false))
                  (omega (arith, v.len-else-place-len-2.ensures, v.if-place-len-3.true)) same
            ]
      ],
)

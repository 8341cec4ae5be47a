use Rattle.std.proofs.Common.{◌≤◌, length, take, arith}
use Rattle.std.specs.List.{list_any}
use Rattle.wb_footprints.specs.Reaches.{in_reaches}
use Rattle.wb_footprints.proofs.AtPoints.{one_more, all_least}
use Rattle.wb_footprints.proofs.InReaches.{asked, asked_all}
use Rattle.wb_footprints.proofs.Meeting.{least_like}
use Rattle.wb_footprints.proofs.marks.block_marks.BlockMarks.least_in.Goals as goal

pub loop-marks-preserved : goal.loop-marks-preserved
loop-marks-preserved c =
    let rs = c.args.self.now.reaches.items in
    let i = c.loop-marks.marks-index in
    let ps = c.args.indices.now in
    let is = rw c.deref-marks-items.ensures.value at c.marks-item.is in
    let below = rw c.deref-marks-items.ensures.value at c.loop-marks-test.true in
    one_more (asked ps) rs i c.args.after c.marks-item.result below c.marks-item.result is c.earlier-first.result
    (c.earlier-first.ensures.least (λ n. list_any (λ r. asked ps r n) (take i rs)) (asked ps c.marks-item.result) c.args.after c.loop-marks.invariant c.least_in.ensures)

pub returns : goal.returns
returns c =
    let rs = c.args.self.now.reaches.items in
    let ps = c.args.indices.now in
    let test = rw c.deref-marks-items.ensures.value at c.loop-marks-test.false in
    let high : length rs ≤ c.loop-marks.marks-index = omega (arith, test) in
    least_like (λ n. list_any (λ r. asked ps r n) rs) (λ n. list_any (λ p. in_reaches rs p n) ps) c.args.after c.loop-marks.first (asked_all rs ps)
    (all_least (asked ps) rs c.loop-marks.marks-index c.args.after c.loop-marks.first high c.loop-marks.invariant)

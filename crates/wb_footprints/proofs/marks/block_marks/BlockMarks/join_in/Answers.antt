use Rattle.std.proofs.Common.{◌≤◌, false, length, refl, sym, ap, arith}
use Rattle.std.specs.List.{list_any}
use Rattle.wb_footprints.specs.Reaches.{in_reaches}
use Rattle.wb_footprints.proofs.InReaches.{asked, asked_all}
use Rattle.wb_footprints.proofs.Joining.{none_joined, one_more, all_joined, joined_like}
use Rattle.wb_footprints.proofs.marks.block_marks.BlockMarks.join_in.Goals as goal

pub loop-marks-init : goal.loop-marks-init
loop-marks-init c = none_joined c.args.waiting.now (λ n. false) c.args.after (λ n up. refl)

pub loop-marks-preserved : goal.loop-marks-preserved
loop-marks-preserved c =
    let ps = c.args.indices.now in
    let r = c.marks-item.result in
    let is = rw c.deref-marks-items.ensures.value at c.marks-item.is in
    let below = rw c.deref-marks-items.ensures.value at c.loop-marks-test.true in
    one_more (asked ps) c.args.after c.args.waiting.now c.loop-marks.waiting c.join_in.new.waiting c.args.self.now.reaches.items c.loop-marks.marks-index r below
    (asked ps r) (λ n. ap (λ y. asked ps y n) (sym is)) c.loop-marks.invariant c.in_ok-join_in.ensures

pub returns : goal.returns
returns c =
    let rs = c.args.self.now.reaches.items in
    let ps = c.args.indices.now in
    let test = rw c.deref-marks-items.ensures.value at c.loop-marks-test.false in
    let high : length rs ≤ c.loop-marks.marks-index = omega (arith, test) in
    joined_like c.args.waiting.now c.loop-marks.waiting (λ n. list_any (λ r. asked ps r n) rs) (λ n. list_any (λ p. in_reaches rs p n) ps) c.args.after (asked_all rs ps)
    (all_joined (asked ps) c.args.after c.args.waiting.now c.loop-marks.waiting rs c.loop-marks.marks-index high c.loop-marks.invariant)

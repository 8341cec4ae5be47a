use Rattle.std.proofs.Common.{sym}
use Rattle.wb_footprints.proofs.Through.{within_waits}
use Rattle.wb_footprints.proofs.questions.swept.SweptCells.covers.Goals as goal

pub returns-then-has_all : goal.returns-then-has_all
returns-then-has_all c = λ covered index waiting after h.
    let x = c.kept-item.result in
    let is = rw c.deref-kept-items.ensures.value at c.kept-item.is in
    let below = rw c.deref-kept-items.ensures.value at c.loop-kept-test.true in
    let same = c.has_all.ensures c.if-has_all.true in
    within_waits index c.args.self.now waiting after x c.args.run.now h (c.loop-kept.kept-index, below, sym is) same.0 same.1

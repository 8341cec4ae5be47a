use Rattle.std.proofs.Common.{◌≡◌, ◌≤◌, ◌++◌, ◌<◌, ℕ, List, length, ◌∙◌, ap, sym, subst, append-nil, rules, arith}
use Rattle.wb_keep.proofs.Disks.Moments.{joined}
use Rattle.wb_keep.specs.Lines.{lines_of, recovered}
use Rattle.wb_keep.specs.Keep.{IsBeforeOrAfter, IsSettled}
use Rattle.wb_keep.specs.declared.keep.LineLog.{LineLog}
use Rattle.wb_keep.specs.Run.{HasSome}
use Rattle.wb_keep.proofs.Runs.{lines_more, has_some, begun}
use Rattle.wb_keep.proofs.keep.LineLog.append_all.Goals as goal

pub returns-in_err-append-clause-any_moment : goal.returns-in_err-append-clause-any_moment
returns-in_err-append-clause-any_moment g c =
    let D = g.D.Device in
    let old = recovered (D.seen c.args.self.now.device) in
    let so_far = recovered (D.seen c.loop-batch.self.device) in
    let lt : c.loop-batch.batch-index < length c.args.batches.now = search rules in
    joined D.moment D.left_since c.args.self.now.device c.loop-batch.self.device c.append.new.self.device (HasSome old c.args.batches.now) (IsBeforeOrAfter so_far (lines_of c.deref.result.now)) c.loop-batch.invariant.moments c.append.ensures.any_moment
    (has_some old c.args.batches.now c.loop-batch.batch-index lt c.batch-item.result c.batch-item.is c.deref.result.now c.deref.ensures.value so_far c.loop-batch.invariant.lines)

pub loop-batch-init : goal.loop-batch-init
loop-batch-init g c =
    let D = g.D.Device in
    let d0 = c.args.self.now.device in
    record {
      faults = omega arith;
      settled = c.requires;
      lines = sym (append-nil (recovered (D.seen d0)));
      moments = begun D.seen D.moment D.left_since D.may_leave d0 c.args.batches.now c.requires.durable (g.met.D.Device.only_now d0);
    }

pub returns-in_err-append-clause-full : goal.returns-in_err-append-clause-full
returns-in_err-append-clause-full g c is =
    let D = g.D.Device in
    let none : c.append.new.self ≡ c.loop-batch.self = search rules in
    let long : 1152921504606846976 ≤ c.append.new.self.mark = search rules in
    (subst (λ (log : LineLog _). IsSettled D.seen D.may_leave log) (sym none) c.loop-batch.invariant.settled, long)

pub loop-batch-preserved : goal.loop-batch-preserved
loop-batch-preserved g c =
    let D = g.D.Device in
    let old = recovered (D.seen c.args.self.now.device) in
    let so_far = recovered (D.seen c.loop-batch.self.device) in
    let lt : c.loop-batch.batch-index < length c.args.batches.now = search rules in
    let acknowledged = c.in_ok-append.ensures.acknowledged in
    record {
      faults = omega (arith, c.loop-batch.invariant.faults, c.append.ensures.faults);
      settled = acknowledged.0;
      lines = acknowledged.1 ∙ ap (λ (ls : List (List ℕ)). ls ++ lines_of c.deref.result.now) c.loop-batch.invariant.lines
          ∙ lines_more old c.args.batches.now c.loop-batch.batch-index lt c.batch-item.result c.batch-item.is c.deref.result.now c.deref.ensures.value;
      moments =
          joined D.moment D.left_since c.args.self.now.device c.loop-batch.self.device c.append.new.self.device (HasSome old c.args.batches.now) (IsBeforeOrAfter so_far (lines_of c.deref.result.now)) c.loop-batch.invariant.moments c.append.ensures.any_moment
          (has_some old c.args.batches.now c.loop-batch.batch-index lt c.batch-item.result c.batch-item.is c.deref.result.now c.deref.ensures.value so_far c.loop-batch.invariant.lines);
    }

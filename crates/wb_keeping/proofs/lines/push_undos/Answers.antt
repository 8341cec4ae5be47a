use Rattle.std.proofs.Common.{◌<◌, length, rules}
use Rattle.wb_keeping.proofs.Added.{adds_none, undos_more}
use Rattle.wb_keeping.proofs.lines.push_undos.Goals as goal

pub push_request-requires : goal.push_request-requires
push_request-requires c = (tt, (tt, tt))

pub loop-number-init : goal.loop-number-init
loop-number-init c = adds_none c.args.changes.now

pub loop-number-preserved : goal.loop-number-preserved
loop-number-preserved c =
    let i = c.loop-number.number-index in
    let ns = c.as_slice-each.result.now in
    let lt : i < length ns = search rules in
    undos_more ns i c.args.changes.now c.loop-number.changes c.push_request.new.changes lt c.loop-number.invariant c.in_ok-push_request.ensures

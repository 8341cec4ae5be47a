use Rattle.std.proofs.Common.{◌≡◌, ◌+◌, length, rules, arith}
use Rattle.wb_keep.proofs.keep.resume.Goals as goal

pub returns-in-Ok-clause-settled : goal.returns-in-Ok-clause-settled
returns-in-Ok-clause-settled g c =
    let D = g.D.Device in
    let closed = c.in-Ok.ensures.at_rest in
    let mark : c.max.result + 1 ≡ length (D.seen c.repair.new.device) = search rules in
    let last : c.max-in-Ok.result + 1 ≡ length (D.seen c.repair.new.device) = search rules in (
      record {
        file = closed.0.rest;
        mark = omega (arith, mark, closed.0.no_room);
        last = last;
        durable = c.in-Ok.ensures.durable;
      },
      closed.1,
    )

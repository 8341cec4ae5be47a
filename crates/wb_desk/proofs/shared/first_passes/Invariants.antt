use Rattle.std.proofs.Common.{◌≡◌, ◌+◌}
use Rattle.wb_desk.specs.Serving.{new_passes}
use Rattle.wb_desk.proofs.shared.first_passes.Given as goal

abbrev pub invariant-loop-seat : goal.invariant-loop-seat
invariant-loop-seat g l = record {
  parts : l.rest.parts + l.seat ≡ l.fn.rest.parts;
  amount : l.rest.amount ≡ 0;
  made : l.passes.items ≡ new_passes l.seat;
}

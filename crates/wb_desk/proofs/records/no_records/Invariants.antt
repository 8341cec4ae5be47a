use Rattle.std.proofs.Common.{◌≡◌}
use Rattle.wb_desk.specs.Courses.{empty_lists}
use Rattle.wb_desk.proofs.records.no_records.Given as goal

abbrev pub invariant-loop-seat : goal.invariant-loop-seat
invariant-loop-seat l = l.lists.items ≡ empty_lists l.seat

use Rattle.std.proofs.Common.{add-one, arith}
use Rattle.std.proofs.lemmas.Grind.{common_steps}
use Rattle.wb_desk.proofs.shared.first_passes.Goals as goal

pub loop-seat-preserved : goal.loop-seat-preserved
loop-seat-preserved g c = record {
  parts = omega arith;
  amount = omega arith;
  made = rw add-one (grind (arith, common_steps));
}

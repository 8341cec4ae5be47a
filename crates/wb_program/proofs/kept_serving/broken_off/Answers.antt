use Rattle.std.proofs.Common.{refl}
use Rattle.wb_program.proofs.kept_serving.broken_off.Goals as goal

pub returns-clause-off : goal.returns-clause-off
returns-clause-off g c = record {
  left = c.args.seats.now;
  log = c.args.log;
  leaves = c.requires.leaves;
  is_fault = c.blamed-status.ensures.fault;
  nothing = refl;
  told = c.blamed-status.ensures.told;
}

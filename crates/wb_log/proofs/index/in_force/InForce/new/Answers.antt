use Rattle.std.proofs.Common.{◌∙◌, arith}
use Rattle.wb_log.proofs.Entered.{none_entered}
use Rattle.wb_log.proofs.index.in_force.InForce.new.Goals as goal

pub returns : goal.returns
returns c = λ count footprints none.
    record {
      from_1 = none;
      within = omega arith;
      numbers = λ k. c.new-numbers.ensures k ∙ none_entered footprints k none;
      bound = c.new-bound.ensures count footprints;
    }

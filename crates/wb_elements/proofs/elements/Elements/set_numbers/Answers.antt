use Rattle.wb_elements.specs.Piecewise.Seen.{seen_of}
use Rattle.wb_elements.proofs.Blocks.{still_ranged}
use Rattle.wb_elements.proofs.elements.Elements.set_numbers.Goals as goal

pub invariant_of-self : goal.invariant_of-self
invariant_of-self c =
    let p = c.self.inside in
    record {
      kept = c.number_form.ensures.kept;
      ranged = still_ranged p.ranges (seen_of p.form).0 (seen_of c.number_form.new.form).0
          c.number_form.ensures.names c.self.invariant.ranged;
    }

use Rattle.std.proofs.Common.{ap, ◌∙◌}
use Rattle.std.specs.Map.{keys_of}
use Rattle.std.proofs.lemmas.Map.{keys-set_value}
use Rattle.wb_elements.specs.Piecewise.Seen.{seen_of}
use Rattle.wb_elements.proofs.Blocks.{still_ranged}
use Rattle.wb_elements.proofs.elements.Elements.set_near.Goals as goal

pub invariant_of-self : goal.invariant_of-self
invariant_of-self c =
    let p = c.self.inside in
    record {
      kept = c.set_form.ensures.kept;
      ranged = still_ranged p.ranges (seen_of p.form).0 (seen_of c.set_form.new.form).0
          (ap keys_of c.set_form.ensures.elements ∙ keys-set_value _ (seen_of p.form).0 _) c.self.invariant.ranged;
    }

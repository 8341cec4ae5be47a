use Rattle.std.proofs.Common.{ap, ◌∙◌}
use Rattle.std.specs.Map.{keys_of}
use Rattle.wb_elements.proofs.elements.Elements.note_ranges.Goals as goal

pub invariant_of-self : goal.invariant_of-self
invariant_of-self c =
    record {
      kept = c.self.invariant.kept;
      ranged = ap (λ v. keys_of v.0) c.self.view_is ∙ c.stand_at.ensures c.if-stand_at.true;
    }

use Rattle.wb_sets.proofs.Packing.{few_bytes, packed_text}
use Rattle.wb_sets.proofs.label.packed.Goals as goal

pub invariant_of-result : goal.invariant_of-result
invariant_of-result c = rw c.over_zeros.ensures (packed_text 64 c.args.source.now (few_bytes c.args.source.now c.requires) c.requires)

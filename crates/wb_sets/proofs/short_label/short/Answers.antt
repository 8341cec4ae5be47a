use Rattle.wb_sets.proofs.Packing.{packed_text}
use Rattle.wb_sets.proofs.short_label.short.Goals as goal

pub invariant_of-result : goal.invariant_of-result
invariant_of-result c = rw c.over_zeros.ensures (packed_text 23 c.args.source.now c.requires.few c.requires.label)

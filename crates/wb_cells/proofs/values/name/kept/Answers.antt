use Rattle.wb_cells.specs.Names.{IsName}
use Rattle.wb_cells.proofs.Packing.{behind, whole, front}
use Rattle.wb_cells.proofs.values.name.kept.Goals as goal

pub invariant_of-result : goal.invariant_of-result
invariant_of-result c =
    rw c.copy_from_slice.ensures.after (
      c.requires.few,
      behind 32 0 c.args.source.now,
      whole 32 0 c.args.source.now c.requires.few,
      front IsName 32 0 c.args.source.now (record { utf8 = c.requires.text; spelled = c.requires.name }),
    )

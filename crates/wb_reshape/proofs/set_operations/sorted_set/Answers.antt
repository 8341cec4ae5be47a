use Rattle.wb_reshape.proofs.Ascending.{ascending_if}
use Rattle.wb_reshape.proofs.set_operations.sorted_set.Goals as goal

pub returns : goal.returns
returns c = ascending_if c.from_slice.result c.args.listed.now c.from_slice.ensures.members c.from_slice.ensures.ascending

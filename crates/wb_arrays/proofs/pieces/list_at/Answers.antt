use Rattle.std.proofs.Common.{◌∙◌}
use Rattle.wb_arrays.proofs.Parts.{read_at}
use Rattle.wb_arrays.proofs.pieces.list_at.Goals as goal

pub returns : goal.returns
returns g c = c.as_slice.ensures.value ∙ read_at c.args.pieces.now c.args.place c.index-pieces-place.result c.requires c.index-pieces-place.is

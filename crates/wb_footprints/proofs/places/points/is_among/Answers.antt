use Rattle.std.proofs.Common.{◌∙◌}
use Rattle.wb_footprints.proofs.InBlocks.{among}
use Rattle.wb_footprints.proofs.places.points.is_among.Goals as goal

pub returns : goal.returns
returns c = c.is_ok.ensures.value ∙ among c.args.points.now c.args.point.now c.binary_search.result c.requires c.binary_search.ensures.bound
    c.binary_search.ensures.position

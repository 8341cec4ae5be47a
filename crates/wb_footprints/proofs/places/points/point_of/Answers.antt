use Rattle.std.proofs.Common.{length, refl}
use Rattle.std.proofs.lemmas.Option.{slice_get_read}
use Rattle.wb_footprints.proofs.places.points.point_of.Goals as goal

pub returns : goal.returns
returns c =
    let ps = c.args.points.now in
    slice_get_read ps (length ps) c.args.at c.index-points-at.result refl c.requires c.index-points-at.is

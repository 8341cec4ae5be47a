use Rattle.std.proofs.lemmas.Slice.Eq.{slice_eq-Decides}
use Rattle.wb_footprints.proofs.InCommon.{same_points}
use Rattle.wb_footprints.proofs.places.points.are_same.Goals as goal

pub returns : goal.returns
returns c = λ yes. (slice_eq-Decides same_points c.args.points.now c.args.others.now c.eq.result c.eq.ensures).0 yes

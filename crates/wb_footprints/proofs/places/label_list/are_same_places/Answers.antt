use Rattle.std.proofs.lemmas.Slice.Eq.{slice_eq-Decides}
use Rattle.wb_footprints.proofs.InLabels.{same_place}
use Rattle.wb_footprints.proofs.places.label_list.are_same_places.Goals as goal

pub returns : goal.returns
returns c = λ yes. (slice_eq-Decides same_place c.args.places.now c.args.others.now c.eq.result c.eq.ensures).0 yes

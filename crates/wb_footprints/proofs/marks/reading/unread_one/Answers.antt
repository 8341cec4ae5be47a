use Rattle.std.proofs.Common.{ap, ◌∙◌}
use Rattle.wb_footprints.specs.Places.{place_marked, is_same_place}
use Rattle.wb_footprints.proofs.ReadPlaces.{one_read}
use Rattle.wb_footprints.proofs.Setting.{clears_like}
use Rattle.wb_footprints.proofs.marks.reading.unread_one.Goals as goal

pub returns : goal.returns
returns c = clears_like (place_marked c.args.marks.now) (place_marked c.take.new.self) (is_same_place c.place_of.result) _ c.args.number
    (λ q. ap (λ p. is_same_place p q) c.place_of.ensures ∙ one_read c.args.pattern.now q) c.take.ensures

use Rattle.wb_range.proofs.Places.{contains_by_place}
use Rattle.wb_sets.proofs.assoc.AssocDomain.contains.Goals as goal

pub returns : goal.returns
returns g c = rw c.is_some.ensures (contains_by_place _ _ _ c.place_of.ensures)

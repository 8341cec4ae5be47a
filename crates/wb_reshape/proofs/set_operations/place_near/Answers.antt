use Rattle.wb_reshape.proofs.Members.{found_has}
use Rattle.wb_range.proofs.Places.{contains_by_place}
use Rattle.wb_reshape.proofs.set_operations.place_near.Goals as goal

pub returns : goal.returns
returns c =
    found_has _ c.args.set.now c.args.index.now (contains_by_place _ _ _ c.place_of.ensures)

use Rattle.std.proofs.Common.{[], ◌∷◌, sym, ◌∙◌}
use Rattle.wb_cells.specs.declared.cells.cell.Cell.TheVariants.{Object}
use Rattle.wb_cells.specs.declared.cells.pattern.Pattern.TheVariants.{One}
use Rattle.wb_footprints.specs.Places.{own, place_marked}
use Rattle.wb_footprints.specs.Footprints.{touched_by, touched_one_of}
use Rattle.wb_footprints.proofs.Meeting.{least_like, named_under}
use Rattle.wb_footprints.proofs.ReadPlaces.{or_false}
use Rattle.wb_footprints.proofs.foot_index.FootIndex.object_touched_after.Goals as goal

pub returns : goal.returns
returns c = λ footprints h.
    let place = own (Object c.args.name.now) in
    let rs = One (Object c.args.name.now) ∷ [] in
    least_like (place_marked c.args.self.now.touched place) (λ n. touched_one_of (footprints n) rs) c.args.after c.part_after.result
    (λ n. named_under rs (footprints n) ∙ or_false (touched_by (footprints n) place) ∙ sym (h.touched place n)) c.part_after.ensures

use Rattle.std.proofs.Common.{true}
use Rattle.std.proofs.lemmas.Result.{on_ok_weaker, on_err_weaker}
use Rattle.wb_footprints.specs.declared.places.marking.Marking.TheVariants.{Own}
use Rattle.wb_footprints.specs.Places.{place_marked}
use Rattle.wb_footprints.specs.Footprints.{marked_at}
use Rattle.wb_footprints.proofs.ReadPlaces.{cells_read, stays_like}
use Rattle.wb_footprints.proofs.Setting.{like}
use Rattle.wb_footprints.proofs.marks.reading.read_cells.Goals as goal

pub returns-clause-ok : goal.returns-clause-ok
returns-clause-ok c = on_ok_weaker c.mark_all.result
    (λ h. like (place_marked c.args.marks.now) (place_marked c.mark_all.new.marks) (marked_at Own c.args.cells.now) _ c.args.number true
    (cells_read c.args.cells.now) h) c.mark_all.ensures.ok

pub returns-clause-err : goal.returns-clause-err
returns-clause-err c = on_err_weaker c.mark_all.result
    (λ h. stays_like (place_marked c.args.marks.now) (place_marked c.mark_all.new.marks) (marked_at Own c.args.cells.now) _ c.args.number
    (cells_read c.args.cells.now) h) c.mark_all.ensures.err

use Rattle.std.proofs.Common.{true}
use Rattle.std.proofs.lemmas.Result.{on_ok_weaker}
use Rattle.wb_footprints.specs.Places.{place_marked}
use Rattle.wb_footprints.proofs.OfCells.{cell_set}
use Rattle.wb_footprints.proofs.marks.cell_lists.mark.Goals as goal

pub returns-in-Some-clause-ok : goal.returns-in-Some-clause-ok
returns-in-Some-clause-ok c = on_ok_weaker c.add-in-Some.result
    (λ h. cell_set (place_marked c.args.marks.now) (place_marked c.add.new.self)
    (place_marked c.add-in-Some.new.self) c.args.number true c.args.marking c.args.cell.now
    c.own.result c.in-Some.place c.own.ensures c.in-Some.ensures c.in_ok-add.ensures.ok h) c.add-in-Some.ensures.ok

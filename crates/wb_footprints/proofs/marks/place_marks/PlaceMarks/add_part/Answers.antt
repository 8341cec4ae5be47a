use Rattle.std.proofs.Common.{refl, true}
use Rattle.std.proofs.lemmas.Result.{on_ok_weaker, on_err_weaker}
use Rattle.wb_footprints.proofs.AtPlaces.{of_set, of_same}
use Rattle.wb_footprints.proofs.marks.place_marks.PlaceMarks.add_part.Goals as goal

pub returns-clause-ok : goal.returns-clause-ok
returns-clause-ok c = on_ok_weaker c.add.result
    (λ h. of_set c.args.self.now (record c.args.self.now { parts = c.add.new.self }) refl c.args.name.now c.args.part.now c.args.number true h)
    c.add.ensures.ok

pub returns-clause-err : goal.returns-clause-err
returns-clause-err c = on_err_weaker c.add.result (λ h. of_same c.args.self.now (record c.args.self.now { parts = c.add.new.self }) refl h)
    c.add.ensures.err

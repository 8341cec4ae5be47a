use Rattle.std.proofs.Common.{true, ap, ◌∙◌}
use Rattle.std.proofs.lemmas.Result.{on_ok_weaker, on_err_weaker}
use Rattle.wb_footprints.specs.Places.{place_marked, is_same_place}
use Rattle.wb_footprints.proofs.ReadPlaces.{one_read}
use Rattle.wb_footprints.proofs.Setting.{like, stays_none}
use Rattle.wb_footprints.proofs.marks.reading.read_one.Goals as goal

pub returns-clause-ok : goal.returns-clause-ok
returns-clause-ok c = on_ok_weaker c.add.result
    (λ h. like (place_marked c.args.marks.now) (place_marked c.add.new.self) (is_same_place c.place_of.result) _ c.args.number true
    (λ q. ap (λ p. is_same_place p q) c.place_of.ensures ∙ one_read c.args.pattern.now q) h) c.add.ensures.ok

pub returns-clause-err : goal.returns-clause-err
returns-clause-err c = on_err_weaker c.add.result
    (λ same. stays_none (place_marked c.args.marks.now) (place_marked c.add.new.self) _ c.args.number same) c.add.ensures.err

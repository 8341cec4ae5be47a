use Rattle.std.proofs.Common.{sym, ap}
use Rattle.std.proofs.lemmas.Result.{on_ok_weaker}
use Rattle.wb_footprints.specs.Places.{place_marked}
use Rattle.wb_footprints.specs.Footprints.{marked_family}
use Rattle.wb_footprints.proofs.Joining.{none_joined, joined_like}
use Rattle.wb_footprints.proofs.Meeting.{at_family}
use Rattle.wb_footprints.proofs.foot_index.FootIndex.join_family.Goals as goal

pub returns-in-Some : goal.returns-in-Some
returns-in-Some c =
    let m = c.args.self.now in
    on_ok_weaker c.join_after.result
    (λ h. joined_like c.args.waiting.now c.join_after.new.waiting (place_marked m.read c.in-Some.place) (marked_family m c.args.cell.now) c.args.after
    (λ n. ap (at_family (λ f. place_marked m.read f n)) (sym c.in-Some.ensures)) h)
    c.join_after.ensures

pub returns-in-None : goal.returns-in-None
returns-in-None c =
    let m = c.args.self.now in
    none_joined c.args.waiting.now (marked_family m c.args.cell.now) c.args.after
    (λ n up. ap (at_family (λ f. place_marked m.read f n)) (sym c.in-None.ensures))

use Rattle.std.proofs.Common.{sym, ap}
use Rattle.std.proofs.lemmas.Result.{on_ok_weaker}
use Rattle.wb_footprints.specs.Places.{place_marked}
use Rattle.wb_footprints.specs.Footprints.{marked_family}
use Rattle.wb_footprints.proofs.Joining.{joined_like}
use Rattle.wb_footprints.proofs.Meeting.{at_family}
use Rattle.wb_footprints.proofs.foot_index.FootIndex.join_family_once.Goals as goal

pub returns-clause-joined : goal.returns-clause-joined
returns-clause-joined c =
    let m = c.args.self.now in
    on_ok_weaker c.join_family_by.result
    (λ h. joined_like c.args.waiting.now c.join_family_by.new.waiting (marked_family m c.of_family.result) (marked_family m c.args.cell.now) c.args.after
    (λ n. ap (at_family (λ f. place_marked m.read f n)) (sym c.of_family.ensures)) h)
    c.join_family_by.ensures.joined

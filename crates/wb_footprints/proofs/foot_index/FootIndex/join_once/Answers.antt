use Rattle.std.proofs.lemmas.Result.{on_ok_weaker}
use Rattle.wb_footprints.specs.Footprints.{marked_own, marked_family}
use Rattle.wb_footprints.proofs.Joining.{then_joined}
use Rattle.wb_footprints.proofs.foot_index.FootIndex.join_once.Goals as goal

pub returns-clause-joined : goal.returns-clause-joined
returns-clause-joined c =
    let m = c.args.self.now in
    on_ok_weaker c.join_family_once.result
    (λ h. then_joined c.args.waiting.now c.join_own_once.new.waiting c.join_family_once.new.waiting (marked_own m c.args.cell.now)
    (marked_family m c.args.cell.now) c.args.after c.in_ok-join_own_once.ensures.joined h)
    c.join_family_once.ensures.joined

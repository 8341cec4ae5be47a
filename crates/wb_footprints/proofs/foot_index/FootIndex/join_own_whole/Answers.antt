use Rattle.std.proofs.lemmas.Result.{on_ok_weaker}
use Rattle.wb_footprints.proofs.Through.{swept_stays}
use Rattle.wb_footprints.proofs.foot_index.FootIndex.join_own_whole.Goals as goal

pub returns-clause-joined : goal.returns-clause-joined
returns-clause-joined c = on_ok_weaker c.keep.result (λ h. c.in_ok-join_own_together.ensures) c.keep.ensures

pub returns-clause-swept : goal.returns-clause-swept
returns-clause-swept c =
    let joined = c.in_ok-join_own_together.ensures in
    on_ok_weaker c.keep.result
    (λ h. h c.args.self.now c.join_own_together.new.waiting c.args.after
    (swept_stays c.args.self.now c.args.swept.now c.args.waiting.now c.join_own_together.new.waiting c.args.after c.requires joined.stay) joined.all)
    c.keep.ensures

use Rattle.std.proofs.lemmas.Result.{on_ok_weaker}
use Rattle.wb_footprints.proofs.Through.{new_joined}
use Rattle.wb_footprints.proofs.foot_index.FootIndex.join_own_left.Goals as goal

pub returns-in-Some-clause-joined : goal.returns-in-Some-clause-joined
returns-in-Some-clause-joined c =
    let row = c.args.run.now.row in
    on_ok_weaker c.join_own_new.result
    (λ h. new_joined c.args.self.now c.args.swept.now c.args.waiting.now c.join_own_new.new.waiting c.args.after row c.in-Some.indices
    c.args.run.now.indices c.requires c.in-Some.ensures h)
    c.join_own_new.ensures.joined

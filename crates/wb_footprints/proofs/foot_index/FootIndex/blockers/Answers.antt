use Rattle.std.proofs.lemmas.Result.{IfOk-weaker}
use Rattle.wb_footprints.specs.Footprints.{Footprints, IsIndexOf}
use Rattle.wb_footprints.specs.Numbers.{numbered}
use Rattle.wb_footprints.specs.Relation.{AreAllAfter}
use Rattle.selective_undo.specs.Log.{blocks_undo}
use Rattle.wb_footprints.proofs.Joining.{only_joined, all_above_like}
use Rattle.wb_footprints.proofs.foot_index.FootIndex.blockers.Goals as goal

pub returns : goal.returns
returns c =
    let new = c.join_blockers.new.waiting in
    let xs = c.args.before.now in
    IfOk-weaker c.above.result (λ v. AreAllAfter (numbered new) c.args.after v.items)
    (λ v. (footprints : Footprints) → IsIndexOf c.args.self.now footprints → AreAllAfter (λ n. blocks_undo xs (footprints n)) c.args.after v.items)
    (λ v all. λ footprints h. all_above_like (numbered new) (λ n. blocks_undo xs (footprints n)) c.args.after v.items
    (only_joined c.new-waiting.result new (λ n. blocks_undo xs (footprints n)) c.args.after c.new-waiting.ensures
    (c.in_ok-join_blockers.ensures.joined footprints h)) all)
    c.above.ensures

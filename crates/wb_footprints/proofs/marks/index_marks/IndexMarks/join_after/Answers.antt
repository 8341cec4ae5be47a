use Rattle.std.proofs.lemmas.Result.{on_ok_weaker}
use Rattle.wb_footprints.specs.Parts.{alone_marked}
use Rattle.wb_footprints.specs.Reaches.{in_reaches}
use Rattle.wb_footprints.proofs.Joining.{then_joined}
use Rattle.wb_footprints.proofs.marks.index_marks.IndexMarks.join_after.Goals as goal

pub returns : goal.returns
returns c =
    let m = c.args.self.now in
    let x = c.args.index.now in
    on_ok_weaker c.join_after.result
    (λ h. then_joined c.args.waiting.now c.join_alone_at.new.waiting c.join_after.new.waiting (alone_marked m x) (in_reaches m.blocks.reaches.items x)
    c.args.after c.in_ok-join_alone_at.ensures h)
    c.join_after.ensures

use Rattle.std.proofs.lemmas.Result.{on_ok_weaker}
use Rattle.wb_footprints.specs.Parts.{alone_marked}
use Rattle.wb_footprints.specs.Reaches.{in_reaches}
use Rattle.wb_footprints.proofs.Joining.{both_joined}
use Rattle.wb_footprints.proofs.marks.index_marks.IndexMarks.join_in.Goals as goal

pub returns : goal.returns
returns c =
    let m = c.args.self.now in
    on_ok_weaker c.join_in.result
    (λ h. both_joined (λ x n. alone_marked m x n) c.args.after (λ x n. in_reaches m.blocks.reaches.items x n) c.args.waiting.now c.join_alone.new.waiting
    c.join_in.new.waiting c.args.indices.now c.in_ok-join_alone.ensures h)
    c.join_in.ensures

use Rattle.wb_footprints.specs.Parts.{alone_marked}
use Rattle.wb_footprints.specs.Reaches.{in_reaches}
use Rattle.wb_footprints.proofs.marks.index_marks.IndexMarks.least_after.Goals as goal

pub returns : goal.returns
returns c =
    let m = c.args.self.now in
    let x = c.args.index.now in
    c.earlier.ensures.least (alone_marked m x) (in_reaches m.blocks.reaches.items x) c.args.after c.least_alone_at-alone.ensures c.least_after.ensures

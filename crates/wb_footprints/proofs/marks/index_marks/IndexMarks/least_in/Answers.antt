use Rattle.wb_footprints.specs.Parts.{alone_marked}
use Rattle.wb_footprints.specs.Reaches.{in_reaches}
use Rattle.wb_footprints.proofs.AtPoints.{both_least}
use Rattle.wb_footprints.proofs.marks.index_marks.IndexMarks.least_in.Goals as goal

pub returns : goal.returns
returns c =
    let m = c.args.self.now in
    both_least (λ x n. alone_marked m x n) (λ x n. in_reaches m.blocks.reaches.items x n) c.args.indices.now c.args.after c.earlier.result
    (c.earlier.ensures.least _ _ c.args.after c.least_alone-alone.ensures c.least_in.ensures)

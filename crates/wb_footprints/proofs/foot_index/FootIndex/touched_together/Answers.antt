use Rattle.std.proofs.Common.{sym}
use Rattle.wb_cells.specs.Runs.{cell_of}
use Rattle.wb_footprints.specs.Places.{own, place_marked}
use Rattle.wb_footprints.specs.Footprints.{touched_by}
use Rattle.wb_footprints.proofs.AtPoints.{same_least}
use Rattle.wb_footprints.proofs.foot_index.FootIndex.touched_together.Goals as goal

pub returns : goal.returns
returns c = λ footprints h.
    let row = c.args.run.now.row in
    same_least (λ p n. place_marked c.args.self.now.touched (own (cell_of row p)) n)
    (λ p n. touched_by (footprints n) (own (cell_of row p))) (λ p n. sym (h.touched (own (cell_of row p)) n))
    c.args.run.now.indices c.args.after c.least_in.result c.least_in.ensures

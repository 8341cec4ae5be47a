use Rattle.std.proofs.lemmas.Result.{on_ok_weaker}
use Rattle.wb_cells.specs.Runs.{cell_of}
use Rattle.wb_footprints.specs.Places.{own, place_marked}
use Rattle.wb_footprints.proofs.Joining.{both_joined}
use Rattle.wb_footprints.proofs.foot_index.FootIndex.join_own_together.Goals as goal

pub returns : goal.returns
returns c =
    let m = c.args.self.now in
    let run = c.args.run.now in
    on_ok_weaker c.join_in-2.result
    (λ h. both_joined (λ p n. place_marked m.touched (own (cell_of run.row p)) n) c.args.after
    (λ p n. place_marked m.read (own (cell_of run.row p)) n) c.args.waiting.now c.join_in.new.waiting c.join_in-2.new.waiting run.indices
    c.in_ok-join_in.ensures h)
    c.join_in-2.ensures

use Rattle.std.proofs.lemmas.Result.{on_ok_weaker}
use Rattle.std.specs.List.{list_any}
use Rattle.wb_cells.specs.Runs.{changes_in, cell_of}
use Rattle.wb_footprints.specs.Footprints.{marked_own}
use Rattle.wb_footprints.proofs.Joining.{joined_like}
use Rattle.wb_footprints.proofs.RunPlaces.{any_cell}
use Rattle.wb_footprints.proofs.foot_index.FootIndex.join_own_in.Goals as goal

pub returns-in-Some-clause-joined : goal.returns-in-Some-clause-joined
returns-in-Some-clause-joined c =
    let m = c.args.self.now in
    let run = c.in-Some.run' in
    let xs = changes_in c.args.cells.now.form in
    on_ok_weaker c.join_own_run.result
    (λ h. joined_like c.args.waiting.now c.join_own_run.new.waiting
    (λ n. list_any (λ p. marked_own m (cell_of run.row p) n) run.indices) (λ n. list_any (λ x. marked_own m x.cell n) xs) c.args.after
    (λ n. any_cell (λ k. marked_own m k n) xs run.row run.indices c.in-Some.ensures.cells) h)
    c.join_own_run.ensures.joined

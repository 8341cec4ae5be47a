use Rattle.std.proofs.Common.{ℕ, Bool}
use Rattle.std.proofs.lemmas.Result.{on_ok_weaker}
use Rattle.selective_undo.specs.declared.Change.{Change}
use Rattle.wb_cells.specs.declared.cells.cell.Cell.{Cell}
use Rattle.wb_cells.specs.declared.cells.value.Value.{Value}
use Rattle.wb_cells.specs.Runs.{all_changes}
use Rattle.wb_footprints.specs.Footprints.{marked_own, marked_family}
use Rattle.wb_footprints.proofs.Joining.{both_joined}
use Rattle.wb_footprints.proofs.foot_index.FootIndex.join_runs.Goals as goal

pub returns-clause-joined : goal.returns-clause-joined
returns-clause-joined c =
    let f : Change Cell Value → ℕ → Bool = λ x n. marked_own c.args.self.now x.cell n in
    let g : Change Cell Value → ℕ → Bool = λ x n. marked_family c.args.self.now x.cell n in
    on_ok_weaker c.join_families.result
    (λ h. both_joined f c.args.after g c.args.waiting.now c.join_own_all.new.waiting c.join_families.new.waiting (all_changes c.args.runs.now)
    c.in_ok-join_own_all.ensures.joined h)
    c.join_families.ensures.joined

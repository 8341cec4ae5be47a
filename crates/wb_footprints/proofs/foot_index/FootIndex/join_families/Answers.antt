use Rattle.std.proofs.Common.{ℕ, Bool, false, refl, arith}
use Rattle.selective_undo.specs.declared.Change.{Change}
use Rattle.wb_cells.specs.declared.cells.cell.Cell.{Cell}
use Rattle.wb_cells.specs.declared.cells.value.Value.{Value}
use Rattle.wb_footprints.specs.Footprints.{marked_family}
use Rattle.wb_footprints.proofs.Joining.{none_joined, run_joined, runs_joined}
use Rattle.wb_footprints.proofs.foot_index.FootIndex.join_families.Goals as goal

pub loop-run-init : goal.loop-run-init
loop-run-init c = record { joined = none_joined c.args.waiting.now (λ n. false) c.args.after (λ n up. refl); swept = c.requires }

pub loop-run-preserved : goal.loop-run-preserved
loop-run-preserved c =
    let f : Change Cell Value → ℕ → Bool = λ x n. marked_family c.args.self.now x.cell n in
    record {
      joined = run_joined f c.args.after c.args.waiting.now c.args.runs.now c.loop-run.waiting c.join_family_of.new.waiting c.loop-run.run-index c.run-item.result
          (omega arith) c.run-item.is c.loop-run.invariant.joined c.in_ok-join_family_of.ensures.joined;
      swept = c.in_ok-join_family_of.ensures.swept;
    }

pub returns-clause-joined : goal.returns-clause-joined
returns-clause-joined c =
    let f : Change Cell Value → ℕ → Bool = λ x n. marked_family c.args.self.now x.cell n in
    runs_joined f c.args.after c.args.waiting.now c.args.runs.now c.loop-run.waiting c.loop-run.run-index (omega arith) c.loop-run.invariant.joined

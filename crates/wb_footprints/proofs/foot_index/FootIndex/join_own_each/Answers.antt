use Rattle.std.proofs.Common.{ℕ, Bool, false, ◌<◌, ◌≤◌, None, length, refl, sym, ap, arith}
use Rattle.selective_undo.specs.declared.Change.{Change}
use Rattle.wb_cells.specs.declared.cells.cell.Cell.{Cell}
use Rattle.wb_cells.specs.declared.cells.value.Value.{Value}
use Rattle.wb_cells.specs.Runs.{changes_in}
use Rattle.wb_footprints.specs.Footprints.{marked_own}
use Rattle.wb_footprints.proofs.Joining.{none_joined, one_more, all_joined}
use Rattle.wb_footprints.proofs.foot_index.FootIndex.join_own_each.Goals as goal

pub loop-at-init : goal.loop-at-init
loop-at-init c = record { joined = none_joined c.args.waiting.now (λ n. false) c.args.after (λ n up. refl); swept = c.requires }

pub loop-at-preserved : goal.loop-at-preserved
loop-at-preserved c =
    let f : Change Cell Value → ℕ → Bool = λ x n. marked_own c.args.self.now x.cell n in
    let xs = changes_in c.args.cells.now.form in
    let i = c.loop-at.at in
    let low : i < length xs = omega (arith, c.loop-at-test.true, c.len-at-end.ensures) in
    let cell = c.cell-cell.result in
    let d : Change Cell Value = record { cell = cell; value = None } in
    record {
      joined = one_more f c.args.after c.args.waiting.now c.loop-at.waiting c.join_own_once.new.waiting xs i d low (marked_own c.args.self.now cell)
          (λ n. ap (λ (k : Cell). marked_own c.args.self.now k n) (sym (c.cell-cell.ensures d))) c.loop-at.invariant.joined c.in_ok-join_own_once.ensures.joined;
      swept = c.in_ok-join_own_once.ensures.swept;
    }

pub returns-clause-joined : goal.returns-clause-joined
returns-clause-joined c =
    let f : Change Cell Value → ℕ → Bool = λ x n. marked_own c.args.self.now x.cell n in
    let xs = changes_in c.args.cells.now.form in
    let high : length xs ≤ c.loop-at.at = omega (arith, c.loop-at-test.false, c.len-at-end.ensures) in
    all_joined f c.args.after c.args.waiting.now c.loop-at.waiting xs c.loop-at.at high c.loop-at.invariant.joined

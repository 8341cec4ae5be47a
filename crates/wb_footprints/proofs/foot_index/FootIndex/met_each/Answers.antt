use Rattle.std.proofs.Common.{◌<◌, ◌≤◌, ◌+◌, None, length, sym, ap, arith, take}
use Rattle.std.proofs.lemmas.List.{take_all}
use Rattle.selective_undo.specs.declared.Change.{Change}
use Rattle.wb_cells.specs.declared.cells.cell.Cell.{Cell}
use Rattle.wb_cells.specs.declared.cells.value.Value.{Value}
use Rattle.wb_cells.specs.Runs.{changes_in}
use Rattle.wb_footprints.specs.Footprints.{any_met, met_by}
use Rattle.wb_footprints.proofs.Meeting.{any_in_front, least_like, soonest, undo_more}
use Rattle.wb_footprints.proofs.foot_index.FootIndex.met_each.Goals as goal

pub loop-at-preserved : goal.loop-at-preserved
loop-at-preserved c =
    let xs = changes_in c.args.cells.now.form in
    let i = c.loop-at.at in
    let low : i < length xs = omega (arith, c.loop-at-test.true, c.len-at-end.ensures) in
    let cell = c.cell-cell.result in
    let d : Change Cell Value = record { cell = cell; value = None } in
    record {
      least = λ footprints h. undo_more footprints c.args.after xs i d low cell (c.cell-cell.ensures d) c.earlier-first.result
          (c.earlier-first.ensures.least (λ n. any_met (footprints n) (take i xs)) (λ n. met_by (footprints n) cell)
          c.args.after (c.loop-at.invariant.least footprints h) (c.met_after.ensures.least footprints h));
      above = c.earlier-first.ensures.above c.args.after c.loop-at.invariant.above c.met_after.ensures.above;
    }

pub returns-clause-least : goal.returns-clause-least
returns-clause-least c =
    let xs = changes_in c.args.cells.now.form in
    let high : length xs ≤ c.loop-at.at = omega (arith, c.loop-at-test.false, c.len-at-end.ensures) in
    λ footprints h. least_like (λ n. any_met (footprints n) (take c.loop-at.at xs)) (λ n. any_met (footprints n) xs) c.args.after c.loop-at.first
    (λ n. ap (any_met (footprints n)) (sym (take_all c.loop-at.at xs high))) (c.loop-at.invariant.least footprints h)

pub returns-then-is_next-clause-least : goal.returns-then-is_next-clause-least
returns-then-is_next-clause-least c =
    let xs = changes_in c.args.cells.now.form in
    let i = c.loop-at.at in
    let low : i < length xs = omega (arith, c.loop-at-test.true, c.len-at-end.ensures) in
    let cell = c.cell-cell.result in
    let d : Change Cell Value = record { cell = cell; value = None } in
    let after = c.args.after in
    let first = c.earlier-first.result in
    λ footprints h. soonest (λ n. any_met (footprints n) (take (i + 1) xs)) (λ n. any_met (footprints n) xs) after first
    (c.is_next.ensures c.if-is_next.true)
    (λ n e. any_in_front (λ x. met_by (footprints n) x.cell) xs (i + 1) e)
    (undo_more footprints after xs i d low cell (c.cell-cell.ensures d) first
    (c.earlier-first.ensures.least (λ n. any_met (footprints n) (take i xs)) (λ n. met_by (footprints n) cell)
    after (c.loop-at.invariant.least footprints h) (c.met_after.ensures.least footprints h)))

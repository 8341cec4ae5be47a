use Rattle.std.proofs.Common.{◌<◌, ◌≤◌, ◌+◌, ℕ, Bool, None, length, sym, ap, arith, take}
use Rattle.std.specs.List.{list_any}
use Rattle.std.proofs.lemmas.List.{take_all}
use Rattle.selective_undo.specs.declared.Change.{Change}
use Rattle.wb_cells.specs.declared.cells.cell.Cell.{Cell}
use Rattle.wb_cells.specs.declared.cells.value.Value.{Value}
use Rattle.wb_cells.specs.Runs.{changes_in}
use Rattle.wb_footprints.specs.Places.{own}
use Rattle.wb_footprints.specs.Footprints.{touched_by}
use Rattle.wb_footprints.proofs.Meeting.{any_in_front, cells_more, least_like, soonest}
use Rattle.wb_footprints.proofs.foot_index.FootIndex.touched_each.Goals as goal

pub loop-at-preserved : goal.loop-at-preserved
loop-at-preserved c =
    let xs = changes_in c.args.cells.now.form in
    let i = c.loop-at.at in
    let low : i < length xs = omega (arith, c.loop-at-test.true, c.len-at-end.ensures) in
    let cell = c.cell-cell.result in
    let d : Change Cell Value = record { cell = cell; value = None } in
    λ footprints h. cells_more footprints c.args.after xs i d low (own cell) (ap own (c.cell-cell.ensures d)) c.earlier-first.result
    (c.earlier-first.ensures.least (λ n. list_any (λ x. touched_by (footprints n) (own x.cell)) (take i xs)) (λ n. touched_by (footprints n) (own cell))
    c.args.after (c.loop-at.invariant footprints h) (c.touched_at.ensures footprints h))

pub returns : goal.returns
returns c =
    let xs = changes_in c.args.cells.now.form in
    let high : length xs ≤ c.loop-at.at = omega (arith, c.loop-at-test.false, c.len-at-end.ensures) in
    λ footprints h. least_like (λ n. list_any (λ x. touched_by (footprints n) (own x.cell)) (take c.loop-at.at xs))
    (λ n. list_any (λ x. touched_by (footprints n) (own x.cell)) xs) c.args.after c.loop-at.first
    (λ n. ap (list_any (λ x. touched_by (footprints n) (own x.cell))) (sym (take_all c.loop-at.at xs high))) (c.loop-at.invariant footprints h)

pub returns-then-is_next : goal.returns-then-is_next
returns-then-is_next c =
    let xs = changes_in c.args.cells.now.form in
    let i = c.loop-at.at in
    let low : i < length xs = omega (arith, c.loop-at-test.true, c.len-at-end.ensures) in
    let cell = c.cell-cell.result in
    let d : Change Cell Value = record { cell = cell; value = None } in
    let after = c.args.after in
    let first = c.earlier-first.result in
    λ footprints h.
    let met : ℕ → Change Cell Value → Bool = λ n x. touched_by (footprints n) (own x.cell) in
    soonest (λ n. list_any (met n) (take (i + 1) xs)) (λ n. list_any (met n) xs) after first (c.is_next.ensures c.if-is_next.true)
    (λ n e. any_in_front (met n) xs (i + 1) e)
    (cells_more footprints after xs i d low (own cell) (ap own (c.cell-cell.ensures d)) first
    (c.earlier-first.ensures.least (λ n. list_any (met n) (take i xs)) (λ n. touched_by (footprints n) (own cell))
    after (c.loop-at.invariant footprints h) (c.touched_at.ensures footprints h)))

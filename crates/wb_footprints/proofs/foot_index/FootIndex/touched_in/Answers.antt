use Rattle.std.proofs.Common.{◌<◌, None, length, sym, ap, ◌∙◌, arith}
use Rattle.std.specs.List.{list_any}
use Rattle.std.proofs.lemmas.List.Folds.{list_any_at}
use Rattle.selective_undo.specs.declared.Change.{Change}
use Rattle.wb_cells.specs.declared.cells.cell.Cell.{Cell}
use Rattle.wb_cells.specs.declared.cells.value.Value.{Value}
use Rattle.wb_cells.specs.Runs.{changes_in, cell_of}
use Rattle.wb_footprints.specs.Places.{own}
use Rattle.wb_footprints.specs.Footprints.{touched_by}
use Rattle.wb_footprints.proofs.Meeting.{least_like, soonest}
use Rattle.wb_footprints.proofs.RunPlaces.{any_cell}
use Rattle.wb_footprints.proofs.foot_index.FootIndex.touched_in.Goals as goal

pub returns-in-Some : goal.returns-in-Some
returns-in-Some c = λ footprints h.
    let run = c.in-Some.run' in
    let xs = changes_in c.args.cells.now.form in
    least_like (λ n. list_any (λ p. touched_by (footprints n) (own (cell_of run.row p))) run.indices)
    (λ n. list_any (λ x. touched_by (footprints n) (own x.cell)) xs) c.args.after c.touched_together.result
    (λ n. any_cell (λ x. touched_by (footprints n) (own x)) xs run.row run.indices c.in-Some.ensures.cells)
    (c.touched_together.ensures footprints h)

pub returns-then-is_next : goal.returns-then-is_next
returns-then-is_next c = λ footprints h.
    let xs = changes_in c.args.cells.now.form in
    let low : 0 < length xs = omega (arith, c.if-len-lt-LEAST.false, c.len.ensures) in
    let cell = c.cell.result in
    let d : Change Cell Value = record { cell = cell; value = None } in
    soonest (λ n. touched_by (footprints n) (own cell)) (λ n. list_any (λ x. touched_by (footprints n) (own x.cell)) xs) c.args.after
    c.touched_at-first.result (c.is_next.ensures c.if-is_next.true)
    (λ n e. list_any_at (λ x. touched_by (footprints n) (own x.cell)) xs 0 d low (ap (λ x. touched_by (footprints n) (own x)) (sym (c.cell.ensures d)) ∙ e))
    (c.touched_at-first.ensures footprints h)

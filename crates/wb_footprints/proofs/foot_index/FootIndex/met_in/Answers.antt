use Rattle.std.proofs.Common.{◌<◌, None, length, sym, ap, ◌∙◌, arith}
use Rattle.std.specs.List.{list_any}
use Rattle.std.proofs.lemmas.List.Folds.{list_any_at}
use Rattle.selective_undo.specs.declared.Change.{Change}
use Rattle.wb_cells.specs.declared.cells.cell.Cell.{Cell}
use Rattle.wb_cells.specs.declared.cells.value.Value.{Value}
use Rattle.wb_cells.specs.Runs.{changes_in, cell_of}
use Rattle.wb_footprints.specs.Footprints.{any_met, met_by}
use Rattle.wb_footprints.proofs.Meeting.{least_like, soonest}
use Rattle.wb_footprints.proofs.RunPlaces.{any_cell}
use Rattle.wb_footprints.proofs.foot_index.FootIndex.met_in.Goals as goal

pub returns-in-Some-clause-least : goal.returns-in-Some-clause-least
returns-in-Some-clause-least c = λ footprints h.
    let run = c.in-Some.run' in
    least_like (λ n. list_any (λ p. met_by (footprints n) (cell_of run.row p)) run.indices)
    (λ n. any_met (footprints n) (changes_in c.args.cells.now.form)) c.args.after c.met_together.result
    (λ n. any_cell (met_by (footprints n)) (changes_in c.args.cells.now.form) run.row run.indices c.in-Some.ensures.cells)
    (c.met_together.ensures.least footprints h)

pub returns-then-is_next-clause-least : goal.returns-then-is_next-clause-least
returns-then-is_next-clause-least c = λ footprints h.
    let xs = changes_in c.args.cells.now.form in
    let low : 0 < length xs = omega (arith, c.if-len-lt-LEAST.false, c.len.ensures) in
    let d : Change Cell Value = record { cell = c.cell.result; value = None } in
    soonest (λ n. met_by (footprints n) c.cell.result) (λ n. any_met (footprints n) xs) c.args.after c.met_after-first.result
    (c.is_next.ensures c.if-is_next.true)
    (λ n e. list_any_at (λ x. met_by (footprints n) x.cell) xs 0 d low (ap (met_by (footprints n)) (sym (c.cell.ensures d)) ∙ e))
    (c.met_after-first.ensures.least footprints h)

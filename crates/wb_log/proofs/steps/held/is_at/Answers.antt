use Rattle.std.proofs.Common.{◌≡◌, ◌+◌, ◌-◌, ◌<◌, None, length, sym, ap, ◌∙◌, arith}
use Rattle.std.proofs.lemmas.List.{length-append, length-map}
use Rattle.std.specs.Ordering.{eq_by_cmp}
use Rattle.selective_undo.specs.declared.Change.{Change}
use Rattle.wb_cells.specs.declared.cells.cell.Cell.{Cell}
use Rattle.wb_cells.specs.declared.cells.pattern.Pattern.{Pattern}
use Rattle.wb_cells.specs.declared.cells.pattern.Pattern.TheVariants.{One}
use Rattle.wb_cells.specs.declared.cells.value.Value.{Value}
use Rattle.wb_cells.specs.Cells.{cell_cmp}
use Rattle.wb_cells.specs.Reads.{patterns_of}
use Rattle.wb_log.proofs.Held.{at_behind}
use Rattle.wb_log.proofs.steps.held.is_at.Goals as goal

pub returns : goal.returns
returns c = λ e.
    let ps = c.args.first.now in
    let xs = c.args.rest.now in
    let at = c.args.at in
    let x : Cell = c.args.cell.now in
    let d : Change Cell Value = record { cell = c.cell_near.result; value = None } in
    let f : Change Cell Value → Pattern = λ y. One y.cell in
    let low : length ps + length xs ≡ length ps + length (patterns_of xs) = ap (λ (n : _). length ps + n) (sym (length-map xs f)) in
    let place : at ≡ length ps + (at - length ps) = omega (arith, c.if-at-first.false) in
    let within : at - length ps < length xs = omega (arith, c.requires, c.if-at-first.false, length-append ps (patterns_of xs), low) in
    at_behind ps xs at (at - length ps) d x place within
    (ap (λ (y : Cell). eq_by_cmp cell_cmp y x) (sym (c.cell_near.ensures d)) ∙ sym c.is_same.ensures ∙ e)

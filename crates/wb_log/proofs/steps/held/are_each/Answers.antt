use Rattle.std.proofs.Common.{◌≡◌, ◌<◌, None, Some, ◌++◌, length, get_or, slice_get, refl, ap, ◌∙◌, arith}
use Rattle.std.proofs.lemmas.Option.{slice_get-get_or}
use Rattle.selective_undo.specs.declared.Change.{Change}
use Rattle.wb_cells.specs.declared.cells.cell.Cell.{Cell}
use Rattle.wb_cells.specs.declared.cells.pattern.Pattern.TheVariants.{One}
use Rattle.wb_cells.specs.declared.cells.value.Value.{Value}
use Rattle.wb_cells.specs.Reads.{patterns_of}
use Rattle.wb_log.proofs.Held.{two_more}
use Rattle.wb_log.proofs.steps.held.are_each.Goals as goal

pub loop-at-preserved : goal.loop-at-preserved
loop-at-preserved c =
    let xs = c.args.cells.now in
    let k = c.loop-at.at in
    let before : Cell = c.args.before.now in
    let low : k < length xs = omega (arith, c.loop-at-test.true, c.len-at-end.ensures) in
    let d : Change Cell Value = record { cell = c.cell_near-cell.result; value = None } in
    let is : slice_get xs k ≡ Some (get_or xs k d) = slice_get-get_or xs k d low in
    let second = c.if-not-is_at-2.ensures refl ∙ ap (λ (y : Cell). Some (One y)) (c.cell_near-cell.ensures d) in
    record {
      long = c.loop-at.invariant.long;
      few = c.loop-at.invariant.few;
      same = two_more (c.args.first.now ++ patterns_of c.args.rest.now) before xs k (get_or xs k d) is (c.if-not-is_at.ensures refl) second c.loop-at.invariant.same;
    }

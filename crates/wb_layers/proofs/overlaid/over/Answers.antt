use Rattle.std.proofs.Common.{List, ap, ◌∙◌}
use Rattle.std.proofs.lemmas.Result.{IfOk-weaker}
use Rattle.std.specs.FinMap.{from_entries}
use Rattle.selective_undo.specs.Changes.{apply, sets}
use Rattle.wb_cells.specs.declared.cells.cell.Cell.{Cell}
use Rattle.wb_cells.specs.declared.cells.value.Value.{Value}
use Rattle.wb_cells.specs.Cells.{Changes, cell_cmp, state_of}
use Rattle.wb_layers.specs.Places.{as_changes}
use Rattle.wb_layers.proofs.Shown.{over_set}
use Rattle.wb_layers.proofs.overlaid.over.Goals as goal

pub returns : goal.returns
returns c = λ t shown.
    let own = c.args.changes.now in
    let none = state_of c.new-cells.result in
    let set = state_of c.set_present.new.cells in
    let changed = state_of c.set_present-2.new.cells in
    let done = state_of c.clear_absent.new.cells in
    let before = c.in_ok-before.before.items in
    IfOk-weaker c.list.result _ _
    (λ v is. is ∙ over_set t c.args.shown.items before own none set changed done c.requires shown
    (ap (λ (es : List (Cell × Value)). from_entries {R = cell_cmp} es) c.new-cells.ensures)
    (c.in_ok-before.ensures ∙ ap (λ (es : List (Cell × Value)). as_changes es) c.deref.ensures.value)
    (c.in_ok-set_present.ensures.ok ∙ ap (λ (ys : Changes). apply (sets ys) none) c.deref-2.ensures.value)
    c.in_ok-set_present-2.ensures.ok
    c.clear_absent.ensures)
    c.list.ensures

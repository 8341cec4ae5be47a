use Rattle.std.proofs.Common.{◌≡◌, List, [], ◌∷◌, ◌++◌, Some, None, sym, ap, ◌∙◌}
use Rattle.std.specs.FinMap.{get}
use Rattle.wb_cells.specs.declared.cells.cell.Cell.{Cell}
use Rattle.wb_cells.specs.declared.cells.value.Value.{Value}
use Rattle.wb_cells.specs.Cells.{state_of}
use Rattle.wb_cells.proofs.Shown.{get-state_of}
use Rattle.wb_cells.proofs.PartsSeen.{seen_one, one_of_some, one_of_none}
use Rattle.wb_cells.proofs.book.families.seen_one.Goals as goal

pub returns-in_ok-push-in-Some : goal.returns-in_ok-push-in-Some
returns-in_ok-push-in-Some c =
    let v : Value = c.in-Some.value in
    let here : get (state_of c.args.cells.now) c.args.cell.now ≡ Some v =
    get-state_of c.args.cells.now c.args.cell.now ∙ sym c.get.ensures ∙ c.in-Some.is in
    c.in_ok-push-in-Some.ensures.items ∙ ap (λ (es : List (Cell × Value)). es ++ (c.args.cell.now, v) ∷ []) c.new-shown.ensures.items
    ∙ sym (seen_one (state_of c.args.cells.now) c.args.cell.now (Some v) here ∙ one_of_some c.args.cell.now v)

pub returns-in-None : goal.returns-in-None
returns-in-None c =
    let none : get (state_of c.args.cells.now) c.args.cell.now ≡ None =
    get-state_of c.args.cells.now c.args.cell.now ∙ sym c.get.ensures ∙ c.in-None.is in
    c.new-shown.ensures.items ∙ sym (seen_one (state_of c.args.cells.now) c.args.cell.now None none ∙ one_of_none c.args.cell.now)

use Rattle.std.proofs.Common.{not, Some, IsSome, is_some, ap, sym, ◌∙◌}
use Rattle.std.proofs.lemmas.Option.{slice_get-get_or}
use Rattle.std.specs.FinMap.{get}
use Rattle.wb_cells.specs.declared.cells.cell.Cell.TheVariants.{Element}
use Rattle.wb_cells.specs.Cells.{Cells}
use Rattle.wb_log.proofs.SetAgain.{set_plan, set_blocked}
use Rattle.wb_log.proofs.steps.straight.set_to_redo.Goals as goal

pub returns-in-None-first_to_block_set-clause-edit : goal.returns-in-None-first_to_block_set-clause-edit
returns-in-None-first_to_block_set-clause-edit c =
    let es = c.args.entries.now in
    let x = c.index-entries-at.result in
    slice_get-get_or es c.args.at x c.requires.in_log ∙ ap Some (sym c.index-entries-at.is) ∙ ap Some c.in-Some.ensures

pub returns-in-None-first_to_block_set-clause-ok : goal.returns-in-None-first_to_block_set-clause-ok
returns-in-None-first_to_block_set-clause-ok c = λ there.
    let es = c.args.entries.now in
    let x = c.index-entries-at.result in
    let e = c.in-Some.element in
    let is = slice_get-get_or es c.args.at x c.requires.in_log ∙ ap Some (sym c.index-entries-at.is) ∙ ap Some c.in-Some.ensures in
    set_plan c.args.book.now.cells es c.args.at e.array e.place e.value c.requires.kept c.requires.valid is there c.in-None-first_to_block_set.ensures.first

pub returns-else-is_none-clause-err : goal.returns-else-is_none-clause-err
returns-else-is_none-clause-err c =
    let es = c.args.entries.now in
    let s : Cells = c.args.book.now.cells in
    let x = c.index-entries-at.result in
    let e = c.in-Some.element in
    let is = slice_get-get_or es c.args.at x c.requires.in_log ∙ ap Some (sym c.index-entries-at.is) ∙ ap Some c.in-Some.ensures in
    let there : IsSome (get s (Element e.array e.place)) = sym (ap is_some (c.get.ensures ∙ ap (get s) c.cell.ensures)) ∙ c.is_none.ensures ∙ ap not c.if-is_none.false in
    set_blocked s es c.args.at e.array e.place e.value c.requires.kept c.requires.valid is there c.in-Some-first_to_block_set.by
    c.in-Some-first_to_block_set.ensures.first

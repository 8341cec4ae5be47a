use Rattle.std.proofs.Common.{◌≡◌, ℤ, ◌+◌, Some, option_map, is_some, rules, to_z, of_z, w64, sym, ap, subst, ◌∙◌}
use Rattle.std.proofs.lemmas.Int.{to_z-of_z}
use Rattle.std.specs.FinMap.{get}
use Rattle.selective_undo.specs.Changes.{apply}
use Rattle.wb_book.specs.Kept.{element_set}
use Rattle.wb_cells.specs.declared.cells.cell.Cell.TheVariants.{Element}
use Rattle.wb_cells.specs.declared.cells.value.Value.TheVariants as value
use Rattle.wb_cells.specs.Cells.{Cells}
use Rattle.wb_cells.specs.WellFormed.{IsWellFormed}
use Rattle.wb_edit.specs.declared.command.Command.TheVariants.{Set}
use Rattle.wb_edit.specs.declared.edit.Edit.TheVariants.{Command as OneCommand}
use Rattle.wb_footprints.specs.Footprints.{footprint, with_footprint, element_reads}
use Rattle.wb_log.specs.declared.entry.Before.TheVariants.{Number}
use Rattle.wb_log.specs.declared.entry.LoggedEdit.{LoggedEdit}
use Rattle.wb_log.specs.Indexed.{Indexes}
use Rattle.wb_log.specs.Kept.{kept_in}
use Rattle.wb_log.specs.Records.{cell_before}
use Rattle.wb_log.proofs.SetAgain.{entry_again}
use Rattle.wb_log.proofs.steps.straight.set_again.Goals as goal

pub replace-requires : goal.replace-requires
replace-requires c = λ there.
    let x = c.args.element.now in
    let s : Cells = c.args.book.now.cells in
    let v : ℤ = x.value in
    subst (λ (w : ℤ). IsWellFormed (apply (element_set x.array x.place w) s)) (sym (to_z-of_z w64 v (search rules))) (c.requires.well_formed there)

pub returns-in-Some-clause-there : goal.returns-in-Some-clause-there
returns-in-Some-clause-there c = λ _. ap is_some (c.replace.ensures.was ∙ ap (option_map value.Number) c.in-Some.is)

pub returns-in-Some-clause-entry : goal.returns-in-Some-clause-entry
returns-in-Some-clause-entry c = λ _.
    let x = c.args.element.now in
    let s : Cells = c.args.book.now.cells in
    let v : ℤ = x.value in
    let was : ℤ = c.in-Some.was in
    let had : get s (Element x.array x.place) ≡ Some (value.Number was) = c.replace.ensures.was ∙ ap (option_map value.Number) c.in-Some.is in
    let stored = to_z-of_z w64 was (search rules) in
    (rw c.in-Ok.ensures at c.set.ensures) ∙ ap (λ (w : ℤ). let y : LoggedEdit = record {
      edit = OneCommand (Set x.array x.place v);
      kept = Some (record { footprint = element_reads x.array x.place; inverse = cell_before (Element x.array x.place) (Number w) });
    } in y) stored ∙ entry_again s x.array x.place v was c.args.entry.now.edit c.requires.edit had

pub returns-in-Some-clause-cells : goal.returns-in-Some-clause-cells
returns-in-Some-clause-cells c = λ _.
    let x = c.args.element.now in
    let s : Cells = c.args.book.now.cells in
    let v : ℤ = x.value in
    c.in-Some.ensures.cells ∙ ap (λ (w : ℤ). apply (element_set x.array x.place w) s) (to_z-of_z w64 v (search rules))

pub returns-in-Some-clause-put : goal.returns-in-Some-clause-put
returns-in-Some-clause-put c = λ _ count footprints h none.
    let was : ℤ = c.in-Some.was in
    let now = c.set_back_in_force.new.self in
    subst (λ o. Indexes now count (with_footprint footprints (c.args.at + 1) o)) (sym (ap kept_in (rw c.in-Ok.ensures at c.set.ensures)))
    (c.set_back_in_force.ensures (Number (to_z w64 (of_z w64 was))) count footprints h none)

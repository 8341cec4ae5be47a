use Rattle.std.proofs.Common.{◌≡◌, ℤ, Some, rules, w64, ap, ◌∙◌}
use Rattle.std.proofs.lemmas.Int.{to_z-of_z}
use Rattle.wb_cells.specs.Cells.{Changes}
use Rattle.wb_edit.specs.declared.asked_rectangle.AskedRectangle.TheVariants.{Ranges}
use Rattle.wb_edit.specs.declared.command.Command.TheVariants.{Fill}
use Rattle.wb_edit.specs.declared.edit.Edit.TheVariants.{Command as OneCommand}
use Rattle.wb_log.specs.declared.entry.FillsRecord.{FillsRecord}
use Rattle.wb_log.specs.declared.entry.LoggedEdit.{LoggedEdit}
use Rattle.wb_log.specs.Fills.{array_reads, held_cells}
use Rattle.wb_log.specs.Records.{fills_kept}
use Rattle.wb_log.proofs.Filled.{held_told}
use Rattle.wb_log.proofs.steps.filling.fills_form.Goals as goal

pub returns-in-Ok : goal.returns-in-Ok
returns-in-Ok c =
    let x = c.args.fills.now in
    let told : held_cells x.array x.on c.in_ok-numbers.numbers.items ≡ c.args.before.now =
    held_told x.array x.on c.in_ok-numbers.numbers.items c.args.before.now c.requires c.in_ok-numbers.ensures in
    let seen : FillsRecord → LoggedEdit = λ y. record { edit = OneCommand (Fill y.array (Ranges y.on) y.value); kept = fills_kept y } in
    let kept : ℤ → Changes → LoggedEdit = λ n xs. record {
      edit = OneCommand (Fill x.array (Ranges x.on) n);
      kept = Some (record { footprint = array_reads x.array xs; inverse = xs });
    } in
    let set = to_z-of_z w64 x.value (search rules) in
    ap seen c.in-Ok.ensures.ok ∙ ap (λ (n : ℤ). kept n (held_cells x.array x.on c.in_ok-numbers.numbers.items)) set ∙ ap (kept x.value) told

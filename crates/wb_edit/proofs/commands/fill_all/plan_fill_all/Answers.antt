use Rattle.std.proofs.Common.{List, map, Err, FitsSigned}
use Rattle.std.proofs.lemmas.Int.{to_z-of_z}
use Rattle.std.proofs.lemmas.Result.{err_from_is_err_and}
use Rattle.std.specs.Int.{w64}
use Rattle.selective_undo.specs.Edit.{write}
use Rattle.wb_cells.specs.declared.cells.cell.Cell.TheVariants.{Element}
use Rattle.wb_cells.specs.declared.cells.value.Value.TheVariants.{Number}
use Rattle.wb_cells.specs.declared.values.index.Index.{Index}
use Rattle.wb_cells.specs.Cells.{Name}
use Rattle.wb_edit.specs.Elements.{element_indices}
use Rattle.wb_edit.specs.Trees.{Tree}
use Rattle.wb_edit.specs.Plans.{Makes, indices_in}
use Rattle.wb_edit.specs.Looks.{array_named}
use Rattle.wb_edit.specs.Writes.{put_all}
use Rattle.wb_edit.proofs.Attempts.{goes_on, stops, ends}
use Rattle.wb_edit.proofs.commands.fill_all.plan_fill_all.Goals as goal

pub returns-in_err-found : goal.returns-in_err-found
returns-in_err-found c =
    let p = err_from_is_err_and c.from_residual-in_err-found.result c.from_residual-in_err-found.ensures.1 in
    let s = c.args.book.now.cells in
    let a : Name = c.args.array in
    let last : List Index → Tree = λ is. write (put_all (map (Element a) is) (Number c.args.value)) in
    let rs = c.array_named.new.footprint in
    let us = c.element_indices.new.footprint in
    let why = c.in_err-found.field-0.0 in
    rw (p.1, p.2) (goes_on (array_named a) s c.args.footprint.now rs (λ array. element_indices a last) c.in_ok-array_named.field-0 (Err why) us
    c.in_ok-array_named.ensures (
    stops (element_indices a) s rs us last why c.in_err-found.ensures.looks))

pub returns : goal.returns
returns c =
    let s = c.args.book.now.cells in
    let within : FitsSigned w64 c.args.value = c.ranges.value in
    let a : Name = c.args.array in
    let last : List Index → Tree = λ is. write (put_all (map (Element a) is) (Number c.args.value)) in
    let is : List Index = indices_in c.in_ok-found.found in
    let rs = c.array_named.new.footprint in
    let us = c.element_indices.new.footprint in
    let r = c.fill_changes.result in
    let made : Makes (put_all (map (Element a) is) (Number c.args.value)) r = simp to_z-of_z at c.fill_changes.ensures in
    goes_on (array_named a) s c.args.footprint.now rs (λ array. element_indices a last) c.in_ok-array_named.field-0 r us c.in_ok-array_named.ensures (
    goes_on (element_indices a) s rs us last is r us c.in_ok-found.ensures.looks (
    ends (put_all (map (Element a) is) (Number c.args.value)) s us r made))

use Rattle.std.proofs.Common.{◌≡◌, ℤ, List, map, length, FitsSigned, Result, Ok, Err, sym, ◌∙◌}
use Rattle.std.proofs.lemmas.Int.{to_z-of_z}
use Rattle.std.proofs.lemmas.Result.{err_from_is_err_and}
use Rattle.std.specs.Int.{w64}
use Rattle.selective_undo.specs.Edit.{write}
use Rattle.wb_cells.specs.declared.cells.cell.Cell.TheVariants.{Element}
use Rattle.wb_cells.specs.declared.cells.kind.Kind.{Kind}
use Rattle.wb_cells.specs.declared.cells.pattern.Pattern.{Pattern}
use Rattle.wb_cells.specs.declared.cells.value.Value.TheVariants.{Number}
use Rattle.wb_cells.specs.Cells.{Name, Cells, Changes}
use Rattle.wb_cells.specs.Shapes.{Range, indices}
use Rattle.wb_edit.specs.declared.asked_rectangle.AskedRectangle.{AskedRectangle}
use Rattle.wb_edit.specs.declared.attempt_err.AttemptErr.{AttemptErr}
use Rattle.wb_edit.specs.Commands.{fill}
use Rattle.wb_edit.specs.Looks.{array_named}
use Rattle.wb_edit.specs.Plans.{Attempts, Gives, or_refused}
use Rattle.wb_edit.specs.Rectangles.{ranges_of, asked_ranges, of_rank, over_rectangle, all_elements}
use Rattle.wb_edit.specs.Trees.{Tree}
use Rattle.wb_edit.specs.Writes.{put_all}
use Rattle.wb_edit.proofs.Attempts.{goes_on, passes, stops, ends}
use Rattle.wb_edit.proofs.commands.fill.plan_fill.Goals as goal

-- what is written at the indices of a rectangle
abbrev written : Name → ℤ → List Range → Changes
written a v on = put_all (map (Element a) (indices on)) (Number v)

-- the tests before the elements are looked at
reaches : (s : Cells) (a : Name) (asked : AskedRectangle) (v : ℤ) (rs ss us : List Pattern) (array : Name × Kind) (on : List Range)
    (r : Result Changes AttemptErr) → Gives (array_named a) s rs array ss → or_refused (ranges_of asked) ≡ Ok on →
    or_refused (of_rank (length on) array.1) ≡ Ok tt → Attempts (all_elements a (indices on) (λ y. write (written a v on))) s ss r us →
    Attempts (fill a asked v) s rs r us
reaches s a asked v rs ss us array on r named given ranked rest =
    let last : List Range → Tree = λ on. all_elements a (indices on) (λ y. write (written a v on)) in
    let over : Kind → List Range → Tree = λ kind on. over_rectangle (length on) kind (λ x. last on) in
    goes_on (array_named a) s rs ss (λ array. asked_ranges asked (over array.1)) array r us named (
    goes_on (asked_ranges asked) s ss ss (over array.1) on r us (passes s ss (ranges_of asked) on given) (
    goes_on (over_rectangle (length on) array.1) s ss ss (λ x. last on) tt r us (passes s ss (of_rank (length on) array.1) tt ranked) rest))

pub returns-in_err-all_elements : goal.returns-in_err-all_elements
returns-in_err-all_elements c =
    let p = err_from_is_err_and c.from_residual-in_err-all_elements.result c.from_residual-in_err-all_elements.ensures.1 in
    let s = c.args.book.now.cells in
    let a : Name = c.args.array in
    let on : List Range = c.in_ok-on.on in
    let why = c.in_err-all_elements.field-0.0 in
    let ss = c.array_named.new.footprint in
    let us = c.all_elements.new.footprint in
    rw (p.1, p.2) (reaches s a c.args.asked.now c.args.value c.args.footprint.now ss us (c.in_ok-_domain._domain, c.in_ok-_domain.kind) on (Err why)
    c.in_ok-_domain.ensures (sym c.asked_ranges.ensures ∙ c.in_ok-on.was) (sym c.over_rectangle.ensures ∙ c.in_ok-over_rectangle.was) (
    stops (all_elements a (indices on)) s ss us (λ y. write (written a c.args.value on)) why c.in_err-all_elements.ensures))

pub returns : goal.returns
returns c =
    let s = c.args.book.now.cells in
    let within : FitsSigned w64 c.args.value = c.ranges.value in
    let a : Name = c.args.array in
    let on : List Range = c.in_ok-on.on in
    let ss = c.array_named.new.footprint in
    let us = c.all_elements.new.footprint in
    let r = c.fill_changes.result in
    reaches s a c.args.asked.now c.args.value c.args.footprint.now ss us (c.in_ok-_domain._domain, c.in_ok-_domain.kind) on r
    c.in_ok-_domain.ensures (sym c.asked_ranges.ensures ∙ c.in_ok-on.was) (sym c.over_rectangle.ensures ∙ c.in_ok-over_rectangle.was) (
    goes_on (all_elements a (indices on)) s ss us (λ y. write (written a c.args.value on)) tt r us c.in_ok-all_elements.ensures (
    ends (written a c.args.value on) s us r (simp to_z-of_z at c.fill_changes.ensures)))

use Rattle.std.proofs.Common.{◌≡◌, List, Ok, sym, ap, ◌∙◌}
use Rattle.wb_reshape.specs.declared.operand.Operand.{Operand}
use Rattle.wb_cells.specs.Cells.{Name}
use Rattle.wb_cells.specs.Shapes.{Range}
use Rattle.wb_edit.specs.Trees.{Tree, judged}
use Rattle.wb_edit.specs.Plans.{or_refused}
use Rattle.wb_edit.specs.Reshaping.{shape, reshaped}
use Rattle.wb_edit.specs.Sources.{gives_rectangle, ranges_given, slice_of}
use Rattle.wb_edit.proofs.Attempts.{goes_on, passes}
use Rattle.wb_edit.proofs.commands.reshape.rectangles.plan_slice.Goals as goal

pub returns : goal.returns
returns c =
    let s = c.args.book.now.cells in
    let d : Name = c.args.domain in
    let given : Operand = c.args.given.now in
    let old : List Range = c.in_ok-old.old in
    let by : List Range = c.in_ok-by.by in
    let ss = c.gives_rectangle.new.footprint in
    let us = c.shape.new.footprint in
    let vs = c.ranges_given.new.footprint in
    let ws = c.plan_reshaped.new.footprint in
    let r = c.plan_reshaped.result in
    let last : List Range → List Range → Tree = λ old by. judged (slice_of old by) (λ new. reshaped d old new) in
    let made : or_refused (slice_of old by) ≡ Ok c.in_ok-new.new = sym (c.or_refused.ensures ∙ ap (λ j. or_refused j) c.slice_of.ensures) ∙ c.in_ok-new.was in
    goes_on (gives_rectangle c.args.rank given) s c.args.footprint.now ss (λ x. shape d (λ old. ranges_given given (last old))) tt r ws
    c.in_ok-gives_rectangle.ensures (
    goes_on (shape d) s ss us (λ old. ranges_given given (last old)) old r ws c.in_ok-old.ensures (
    goes_on (ranges_given given) s us vs (last old) by r ws c.in_ok-by.ensures (
    goes_on (judged (slice_of old by)) s vs vs (λ new. reshaped d old new) c.in_ok-new.new r ws (passes s vs (slice_of old by) c.in_ok-new.new made)
    c.plan_reshaped.ensures)))

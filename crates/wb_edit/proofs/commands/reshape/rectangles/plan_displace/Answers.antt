use Rattle.std.proofs.Common.{◌≡◌, ℤ, List, length, Ok, sym, ap, ◌∙◌}
use Rattle.wb_cells.specs.Cells.{Name}
use Rattle.wb_cells.specs.Shapes.{Range}
use Rattle.wb_edit.specs.Trees.{Tree, judged}
use Rattle.wb_edit.specs.Plans.{or_refused}
use Rattle.wb_edit.specs.Reshaping.{shape, reshaped}
use Rattle.wb_edit.specs.Sources.{same_rank, displacement_of}
use Rattle.wb_edit.proofs.Attempts.{goes_on, passes}
use Rattle.wb_edit.proofs.commands.reshape.rectangles.plan_displace.Goals as goal

pub returns : goal.returns
returns c =
    let s = c.args.book.now.cells in
    let d : Name = c.args.domain in
    let os : List ℤ = c.args.offsets.now in
    let old : List Range = c.in_ok-old.old in
    let rs = c.args.footprint.now in
    let us = c.shape.new.footprint in
    let ws = c.plan_reshaped.new.footprint in
    let r = c.plan_reshaped.result in
    let last : List Range → Tree = λ old. judged (displacement_of c.args.how os old) (λ new. reshaped d old new) in
    let ranked : or_refused (same_rank c.args.rank (length os)) ≡ Ok tt =
    sym (c.or_refused.ensures ∙ ap (λ j. or_refused j) (c.same_rank.ensures ∙ ap (λ (xs : List ℤ). same_rank c.args.rank (length xs)) c.coordinates.ensures)) ∙
    c.in_ok-or_refused.was in
    let made : or_refused (displacement_of c.args.how os old) ≡ Ok c.in_ok-new.new = sym (c.or_refused-2.ensures ∙ ap (λ j. or_refused j) c.displacement_of.ensures) ∙
    c.in_ok-new.was in
    goes_on (judged (same_rank c.args.rank (length os))) s rs rs (λ x. shape d last) tt r ws (passes s rs (same_rank c.args.rank (length os)) tt ranked) (
    goes_on (shape d) s rs us last old r ws c.in_ok-old.ensures (
    goes_on (judged (displacement_of c.args.how os old)) s us us (λ new. reshaped d old new) c.in_ok-new.new r ws
    (passes s us (displacement_of c.args.how os old) c.in_ok-new.new made) c.plan_reshaped.ensures))

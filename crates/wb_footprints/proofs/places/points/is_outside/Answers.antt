use Rattle.std.proofs.Common.{sym, ◌∙◌}
use Rattle.wb_footprints.proofs.InBlocks.{none_in, below_first, above_last, less_of}
use Rattle.wb_footprints.proofs.places.points.is_outside.Goals as goal

pub returns-then-is_empty : goal.returns-then-is_empty
returns-then-is_empty c = λ yes. none_in c.args.points.now c.args.point.now (sym c.is_empty.ensures ∙ c.if-is_empty.true)

pub returns-then-is_lt : goal.returns-then-is_lt
returns-then-is_lt c = λ yes.
    let some = sym c.is_empty.ensures ∙ c.if-is_empty.false in
    let less = sym c.cmp.ensures ∙ less_of c.cmp.result (sym c.is_lt.ensures ∙ c.if-is_lt.true) in
    below_first c.args.points.now c.args.point.now c.index-points-0.result c.requires some c.index-points-0.is less

pub returns : goal.returns
returns c = λ yes.
    let some = sym c.is_empty.ensures ∙ c.if-is_empty.false in
    let less = sym c.cmp-2.ensures ∙ less_of c.cmp-2.result (sym c.is_lt-2.ensures ∙ yes) in
    above_last c.args.points.now c.args.point.now c.index-points-points.result c.requires some c.index-points-points.is less

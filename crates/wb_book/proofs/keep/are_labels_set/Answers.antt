use Rattle.std.proofs.Common.{sym, ◌∙◌, arith}
use Rattle.wb_cells.specs.Runs.{labelled_changes}
use Rattle.wb_book.specs.Joined.{element_in}
use Rattle.wb_book.specs.Kept.{is_set}
use Rattle.wb_book.proofs.EachChange.{one_fails, pass_one}
use Rattle.wb_book.proofs.keep.are_labels_set.Goals as goal

pub returns-then-not-is_set : goal.returns-then-not-is_set
returns-then-not-is_set c =
    let l = c.args.labels.now in
    sym (one_fails (is_set (element_in c.args.arrays.now.entries)) (labelled_changes l.0 l.1) c.loop-at.at c.change.result
    (omega (arith, c.loop-at-test.true, c.len-at-end.ensures)) c.change.ensures (sym c.is_set.ensures ∙ c.if-not-is_set.true))

pub loop-at-preserved : goal.loop-at-preserved
loop-at-preserved c =
    let l = c.args.labels.now in
    pass_one (is_set (element_in c.args.arrays.now.entries)) (labelled_changes l.0 l.1) c.loop-at.at c.change.result
    (omega (arith, c.loop-at-test.true, c.len-at-end.ensures)) c.change.ensures c.loop-at.invariant (sym c.is_set.ensures ∙ c.if-not-is_set.false)

use Rattle.std.proofs.Common.{take, sym, subst, ◌∙◌, arith}
use Rattle.selective_undo.specs.Changes.{apply}
use Rattle.wb_cells.specs.Cells.{Cells}
use Rattle.wb_cells.specs.Runs.{labelled_changes}
use Rattle.wb_book.specs.Joined.{element_in}
use Rattle.wb_book.specs.Kept.{Agree, is_set}
use Rattle.wb_book.proofs.ElementsSet.{same_test}
use Rattle.wb_book.proofs.EachChange.{one_passes, apply_one_more}
use Rattle.wb_book.proofs.keep.set_labels.Goals as goal

pub set_one-requires : goal.set_one-requires
set_one-requires c =
    let l = c.args.labels.now in
    let x = c.change.result in
    same_test (element_in c.args.arrays.now.entries) (element_in c.loop-at.arrays.entries) x.cell x.value c.loop-at.invariant.there
    ∙ one_passes (is_set (element_in c.args.arrays.now.entries)) (labelled_changes l.0 l.1) c.loop-at.at x
    (omega (arith, c.loop-at-test.true, c.len-at-end.ensures)) c.change.ensures c.requires

pub loop-at-preserved : goal.loop-at-preserved
loop-at-preserved c =
    let l = c.args.labels.now in
    let xs = labelled_changes l.0 l.1 in
    let k = c.loop-at.at in
    let old = c.loop-at.invariant in
    record {
      agree = λ s agree. subst (λ (t : Cells). Agree c.set_one.new.arrays.entries t)
          (sym (apply_one_more xs k c.change.result s (omega (arith, c.loop-at-test.true, c.len-at-end.ensures)) c.change.ensures))
          (c.set_one.ensures.agree (apply (take k xs) s) (old.agree s agree));
      names = c.set_one.ensures.names ∙ old.names;
      lie = λ b. c.set_one.ensures.lie b ∙ old.lie b;
      there = λ b i. c.set_one.ensures.there b i ∙ old.there b i;
    }

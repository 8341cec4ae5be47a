use Rattle.std.proofs.Common.{◌++◌, [], ◌∷◌, take, append_assoc, arith, sym, ap, subst, ◌∙◌}
use Rattle.std.proofs.lemmas.List.{append-nil, take_all}
use Rattle.wb_cells.specs.Cells.{Changes}
use Rattle.wb_cells.specs.Runs.{labelled_changes}
use Rattle.wb_book.specs.Groups.{LeadTo, changes_in, is_numeric}
use Rattle.wb_book.proofs.EachChange.{one_more, one_passes}
use Rattle.wb_book.proofs.groups.add_each_label.Goals as goal

pub add_change-requires : goal.add_change-requires
add_change-requires c =
    let l = c.args.labels.now in
    one_passes is_numeric (labelled_changes l.0 l.1) c.loop-at.at c.change.result (omega (arith, c.loop-at-test.true, c.len-at-end.ensures)) c.change.ensures
    c.requires

pub loop-at-preserved : goal.loop-at-preserved
loop-at-preserved c =
    let l = c.args.labels.now in
    let xs = labelled_changes l.0 l.1 in
    let k = c.loop-at.at in
    let x = c.change.result in
    let old = c.loop-at.invariant in
    let more = one_more xs k x (omega (arith, c.loop-at-test.true, c.len-at-end.ensures)) c.change.ensures in
    record {
      lead = λ before lead b. subst (λ (ys : Changes). LeadTo ys b (changes_in c.add_change.new.groups.entries b))
          (append_assoc before (take k xs) (x ∷ []) ∙ ap (λ ys. before ++ ys) (sym more))
          (c.in_ok-add_change.ensures.lead (before ++ take k xs) (old.lead before lead) b);
      stays = λ b there. c.add_change.ensures.stays b (old.stays b there);
    }

pub loop-at-init : goal.loop-at-init
loop-at-init c = record {
  lead = λ before lead b. subst (λ (ys : Changes). LeadTo ys b (changes_in c.args.groups.now.entries b)) (sym (append-nil before)) (lead b);
  stays = λ b there. there;
}

pub returns-clause-lead : goal.returns-clause-lead
returns-clause-lead c = λ before lead b.
    let l = c.args.labels.now in
    let xs = labelled_changes l.0 l.1 in
    subst (λ (ys : Changes). LeadTo (before ++ ys) b (changes_in c.loop-at.groups.entries b))
    (take_all c.loop-at.at xs (omega (arith, c.loop-at-test.false, c.len-at-end.ensures))) (c.loop-at.invariant.lead before lead b)

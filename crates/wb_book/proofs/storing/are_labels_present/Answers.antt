use Rattle.std.proofs.Common.{◌≡◌, ◌≤◌, ℕ, ℤ, List, Option, not, is_some, length, arith, sym, ap, ◌∙◌}
use Rattle.std.proofs.lemmas.List.{length-map, take_all}
use Rattle.std.specs.List.{list_all}
use Rattle.wb_cells.specs.Runs.{labelled_at}
use Rattle.wb_book.proofs.StoredRuns.{number_more}
use Rattle.wb_book.proofs.storing.are_labels_present.Goals as goal

pub loop-at-preserved : goal.loop-at-preserved
loop-at-preserved c =
    number_more (is_some) c.args.labels.now.1 c.loop-at.at c.number.result c.number.ensures (c.is_none.ensures ∙ ap not c.if-is_none.false) c.loop-at.invariant

pub returns : goal.returns
returns c = λ h.
    let l = c.args.labels.now in
    let all : length l.1 ≤ c.loop-at.at = omega (arith, c.loop-at-test.false, c.len-at-end.ensures, length-map l.1 (labelled_at l.0)) in
    ap (list_all (λ (e : List ℕ × Option ℤ). is_some e.1)) (sym (take_all c.loop-at.at l.1 all)) ∙ c.loop-at.invariant

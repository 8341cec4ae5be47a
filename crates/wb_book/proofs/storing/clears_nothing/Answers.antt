use Rattle.std.proofs.Common.{sym, ap, ◌∙◌}
use Rattle.std.specs.List.{list_all}
use Rattle.selective_undo.specs.Changes.{clears}
use Rattle.wb_cells.specs.Runs.{changes_in}
use Rattle.wb_book.proofs.StoredRuns.{all_present, labels_present}
use Rattle.wb_book.proofs.storing.clears_nothing.Goals as goal

pub returns-in-Rank1 : goal.returns-in-Rank1
returns-in-Rank1 c = λ h.
    ap (λ f. clears (changes_in f)) c.in-Rank1.is
    ∙ all_present c.in-Rank1.packed.row c.in-Rank1.packed.changes.items (ap (list_all _) (sym c.changes.ensures) ∙ c.are_present.ensures h)

pub returns-in-Rank2 : goal.returns-in-Rank2
returns-in-Rank2 c = λ h.
    ap (λ f. clears (changes_in f)) c.in-Rank2.is
    ∙ all_present c.in-Rank2.packed.row c.in-Rank2.packed.changes.items (ap (list_all _) (sym c.changes-in-Rank2.ensures) ∙ c.are_present-in-Rank2.ensures h)

pub returns-in-Rank3 : goal.returns-in-Rank3
returns-in-Rank3 c = λ h.
    ap (λ f. clears (changes_in f)) c.in-Rank3.is
    ∙ all_present c.in-Rank3.packed.row c.in-Rank3.packed.changes.items (ap (list_all _) (sym c.changes-in-Rank3.ensures) ∙ c.are_present-in-Rank3.ensures h)

pub returns-in-Labels : goal.returns-in-Labels
returns-in-Labels c = λ h.
    ap (λ f. clears (changes_in f)) c.in-Labels.is ∙ labels_present c.in-Labels.labels.0 c.in-Labels.labels.1 (c.are_labels_present.ensures h)

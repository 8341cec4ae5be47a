use Rattle.std.proofs.Common.{◌++◌, List, ℕ, true, sym, ap, subst, ◌∙◌}
use Rattle.std.specs.List.{list_all}
use Rattle.std.specs.Prelude.{OnOk}
use Rattle.wb_cells.specs.declared.changes.row.IndexedRow.{IndexedRow}
use Rattle.wb_cells.specs.Cells.{Changes}
use Rattle.wb_cells.specs.Runs.{changes_in as run_changes, packed_changes, rectangle_entries, numbered_entries}
use Rattle.wb_book.specs.Groups.{LeadTo, changes_in, is_numeric}
use Rattle.wb_book.proofs.ElementsSet.{both_true}
use Rattle.wb_book.proofs.Entries.{never_named, never_labelled, on_ok_ever}
use Rattle.wb_book.proofs.groups.add_run.Goals as goal

pub add_change-requires : goal.add_change-requires
add_change-requires c =
    (both_true (is_numeric c.in-One.change) true (ap (λ f. list_all is_numeric (run_changes f)) (sym c.in-One.is) ∙ c.requires)).0

pub returns-in-One-clause-lead : goal.returns-in-One-clause-lead
returns-in-One-clause-lead c = λ before lead.
    subst (λ (ys : Changes). OnOk c.add_change.result ((b : List ℕ) → LeadTo (before ++ ys) b (changes_in c.add_change.new.groups.entries b)))
    (sym (ap run_changes c.in-One.is)) (c.add_change.ensures.lead before lead)

pub returns-in-Rank1-clause-lead : goal.returns-in-Rank1-clause-lead
returns-in-Rank1-clause-lead c = λ before lead.
    subst (λ (ys : Changes). OnOk c.add_entries.result ((b : List ℕ) → LeadTo (before ++ ys) b (changes_in c.add_entries.new.groups.entries b)))
    (ap (λ (r : IndexedRow). packed_changes r c.changes.result.now) c.row.ensures
    ∙ ap (packed_changes c.in-Rank1.packed.row) c.changes.ensures ∙ sym (ap run_changes c.in-Rank1.is))
    (c.add_entries.ensures.lead before lead)

pub returns-in-Rank1-clause-object : goal.returns-in-Rank1-clause-object
returns-in-Rank1-clause-object c =
    on_ok_ever c.add_entries.result (λ b e. absurd (never_named c.args.form.now c.in-Rank1.packed.row c.in-Rank1.packed.changes.items b
    (ap run_changes c.in-Rank1.is) e))

pub returns-in-Rank2-clause-lead : goal.returns-in-Rank2-clause-lead
returns-in-Rank2-clause-lead c = λ before lead.
    subst (λ (ys : Changes). OnOk c.add_entries-in-Rank2.result
    ((b : List ℕ) → LeadTo (before ++ ys) b (changes_in c.add_entries-in-Rank2.new.groups.entries b)))
    (ap (λ (r : IndexedRow). packed_changes r c.changes-in-Rank2.result.now) c.row-in-Rank2.ensures
    ∙ ap (packed_changes c.in-Rank2.packed.row) c.changes-in-Rank2.ensures ∙ sym (ap run_changes c.in-Rank2.is))
    (c.add_entries-in-Rank2.ensures.lead before lead)

pub returns-in-Rank2-clause-object : goal.returns-in-Rank2-clause-object
returns-in-Rank2-clause-object c =
    on_ok_ever c.add_entries-in-Rank2.result (λ b e. absurd (never_named c.args.form.now c.in-Rank2.packed.row c.in-Rank2.packed.changes.items b
    (ap run_changes c.in-Rank2.is) e))

pub returns-in-Rank3-clause-lead : goal.returns-in-Rank3-clause-lead
returns-in-Rank3-clause-lead c = λ before lead.
    subst (λ (ys : Changes). OnOk c.add_entries-in-Rank3.result
    ((b : List ℕ) → LeadTo (before ++ ys) b (changes_in c.add_entries-in-Rank3.new.groups.entries b)))
    (ap (λ (r : IndexedRow). packed_changes r c.changes-in-Rank3.result.now) c.row-in-Rank3.ensures
    ∙ ap (packed_changes c.in-Rank3.packed.row) c.changes-in-Rank3.ensures ∙ sym (ap run_changes c.in-Rank3.is))
    (c.add_entries-in-Rank3.ensures.lead before lead)

pub returns-in-Rank3-clause-object : goal.returns-in-Rank3-clause-object
returns-in-Rank3-clause-object c =
    on_ok_ever c.add_entries-in-Rank3.result (λ b e. absurd (never_named c.args.form.now c.in-Rank3.packed.row c.in-Rank3.packed.changes.items b
    (ap run_changes c.in-Rank3.is) e))

pub add_labels-requires : goal.add_labels-requires
add_labels-requires c = ap (λ f. list_all is_numeric (run_changes f)) (sym c.in-Labels.is) ∙ c.requires

pub returns-in-Labels-clause-lead : goal.returns-in-Labels-clause-lead
returns-in-Labels-clause-lead c = λ before lead.
    subst (λ (ys : Changes). OnOk c.add_labels.result ((b : List ℕ) → LeadTo (before ++ ys) b (changes_in c.add_labels.new.groups.entries b)))
    (sym (ap run_changes c.in-Labels.is)) (c.add_labels.ensures.lead before lead)

pub returns-in-Labels-clause-object : goal.returns-in-Labels-clause-object
returns-in-Labels-clause-object c =
    let l = c.in-Labels.labels in
    on_ok_ever c.add_labels.result (λ b e. absurd (never_labelled c.args.form.now l.0 l.1 b (ap run_changes c.in-Labels.is) e))

pub returns-in-Rectangle-clause-lead : goal.returns-in-Rectangle-clause-lead
returns-in-Rectangle-clause-lead c = λ before lead.
    subst (λ (ys : Changes). OnOk c.add_block.result ((b : List ℕ) → LeadTo (before ++ ys) b (changes_in c.add_block.new.groups.entries b)))
    (sym (ap run_changes c.in-Rectangle.is)) (c.add_block.ensures.lead before lead)

pub returns-in-Rectangle-clause-object : goal.returns-in-Rectangle-clause-object
returns-in-Rectangle-clause-object c =
    let r = c.in-Rectangle.block in
    on_ok_ever c.add_block.result
    (λ b e. absurd (never_named c.args.form.now r.row (rectangle_entries r.ranges r.number) b (ap run_changes c.in-Rectangle.is) e))

pub returns-in-Numbers-clause-lead : goal.returns-in-Numbers-clause-lead
returns-in-Numbers-clause-lead c = λ before lead.
    subst (λ (ys : Changes). OnOk c.add_block-in-Numbers.result
    ((b : List ℕ) → LeadTo (before ++ ys) b (changes_in c.add_block-in-Numbers.new.groups.entries b)))
    (sym (ap run_changes c.in-Numbers.is)) (c.add_block-in-Numbers.ensures.lead before lead)

pub returns-in-Numbers-clause-object : goal.returns-in-Numbers-clause-object
returns-in-Numbers-clause-object c =
    let r = c.in-Numbers.block in
    on_ok_ever c.add_block-in-Numbers.result
    (λ b e. absurd (never_named c.args.form.now r.row (numbered_entries r.ranges r.numbers.items) b (ap run_changes c.in-Numbers.is) e))

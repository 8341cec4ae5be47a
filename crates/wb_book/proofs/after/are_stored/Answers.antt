use Rattle.std.proofs.Common.{sym, ap, ◌∙◌}
use Rattle.wb_cells.specs.declared.changes.row.IndexedRow.{IndexedRow}
use Rattle.wb_cells.specs.Runs.{cell_of, changes_in, rectangle_entries, numbered_entries}
use Rattle.wb_cells.specs.declared.values.index.Index.TheVariants.{Point, Text}
use Rattle.wb_book.specs.Joined.{is_stored}
use Rattle.wb_book.proofs.Entries.{row_kept, row_dropped, labels_kept, labels_dropped}
use Rattle.wb_book.proofs.after.are_stored.Goals as goal

pub returns-in-Rank1-clause-all : goal.returns-in-Rank1-clause-all
returns-in-Rank1-clause-all c =
    row_kept c.args.form.now c.in-Rank1.packed.row c.in-Rank1.packed.changes.items (ap changes_in c.in-Rank1.is)
    (λ x. is_stored x.cell) c.is_row_stored.result
    (λ e. sym (c.is_row_stored.ensures (Point e.0) ∙ ap (λ (r : IndexedRow). is_stored (cell_of r (Point e.0))) c.row.ensures))

pub returns-in-Rank1-clause-none : goal.returns-in-Rank1-clause-none
returns-in-Rank1-clause-none c =
    row_dropped c.args.form.now c.in-Rank1.packed.row c.in-Rank1.packed.changes.items (ap changes_in c.in-Rank1.is)
    (λ x. is_stored x.cell) c.is_row_stored.result
    (λ e. sym (c.is_row_stored.ensures (Point e.0) ∙ ap (λ (r : IndexedRow). is_stored (cell_of r (Point e.0))) c.row.ensures))

pub returns-in-Rank2-clause-all : goal.returns-in-Rank2-clause-all
returns-in-Rank2-clause-all c =
    row_kept c.args.form.now c.in-Rank2.packed.row c.in-Rank2.packed.changes.items (ap changes_in c.in-Rank2.is)
    (λ x. is_stored x.cell) c.is_row_stored-in-Rank2.result
    (λ e. sym (c.is_row_stored-in-Rank2.ensures (Point e.0) ∙ ap (λ (r : IndexedRow). is_stored (cell_of r (Point e.0))) c.row-in-Rank2.ensures))

pub returns-in-Rank2-clause-none : goal.returns-in-Rank2-clause-none
returns-in-Rank2-clause-none c =
    row_dropped c.args.form.now c.in-Rank2.packed.row c.in-Rank2.packed.changes.items (ap changes_in c.in-Rank2.is)
    (λ x. is_stored x.cell) c.is_row_stored-in-Rank2.result
    (λ e. sym (c.is_row_stored-in-Rank2.ensures (Point e.0) ∙ ap (λ (r : IndexedRow). is_stored (cell_of r (Point e.0))) c.row-in-Rank2.ensures))

pub returns-in-Rank3-clause-all : goal.returns-in-Rank3-clause-all
returns-in-Rank3-clause-all c =
    row_kept c.args.form.now c.in-Rank3.packed.row c.in-Rank3.packed.changes.items (ap changes_in c.in-Rank3.is)
    (λ x. is_stored x.cell) c.is_row_stored-in-Rank3.result
    (λ e. sym (c.is_row_stored-in-Rank3.ensures (Point e.0) ∙ ap (λ (r : IndexedRow). is_stored (cell_of r (Point e.0))) c.row-in-Rank3.ensures))

pub returns-in-Rank3-clause-none : goal.returns-in-Rank3-clause-none
returns-in-Rank3-clause-none c =
    row_dropped c.args.form.now c.in-Rank3.packed.row c.in-Rank3.packed.changes.items (ap changes_in c.in-Rank3.is)
    (λ x. is_stored x.cell) c.is_row_stored-in-Rank3.result
    (λ e. sym (c.is_row_stored-in-Rank3.ensures (Point e.0) ∙ ap (λ (r : IndexedRow). is_stored (cell_of r (Point e.0))) c.row-in-Rank3.ensures))

pub returns-in-Labels-clause-all : goal.returns-in-Labels-clause-all
returns-in-Labels-clause-all c =
    let l = c.in-Labels.labels in
    labels_kept c.args.form.now l.0 l.1 (ap changes_in c.in-Labels.is)
    (λ x. is_stored x.cell) c.is_row_stored-in-Labels.result
    (λ e. sym (c.is_row_stored-in-Labels.ensures (Text e.0) ∙ ap (λ (r : IndexedRow). is_stored (cell_of r (Text e.0))) c.row-in-Labels.ensures))

pub returns-in-Labels-clause-none : goal.returns-in-Labels-clause-none
returns-in-Labels-clause-none c =
    let l = c.in-Labels.labels in
    labels_dropped c.args.form.now l.0 l.1 (ap changes_in c.in-Labels.is)
    (λ x. is_stored x.cell) c.is_row_stored-in-Labels.result
    (λ e. sym (c.is_row_stored-in-Labels.ensures (Text e.0) ∙ ap (λ (r : IndexedRow). is_stored (cell_of r (Text e.0))) c.row-in-Labels.ensures))

pub returns-in-Rectangle-clause-all : goal.returns-in-Rectangle-clause-all
returns-in-Rectangle-clause-all c =
    let r = c.in-Rectangle.rectangle in
    row_kept c.args.form.now r.row (rectangle_entries r.ranges r.number) (ap changes_in c.in-Rectangle.is)
    (λ x. is_stored x.cell) c.is_row_stored-in-Rectangle.result
    (λ e. sym (c.is_row_stored-in-Rectangle.ensures (Point e.0) ∙ ap (λ (r : IndexedRow). is_stored (cell_of r (Point e.0))) c.row-in-Rectangle.ensures))

pub returns-in-Rectangle-clause-none : goal.returns-in-Rectangle-clause-none
returns-in-Rectangle-clause-none c =
    let r = c.in-Rectangle.rectangle in
    row_dropped c.args.form.now r.row (rectangle_entries r.ranges r.number) (ap changes_in c.in-Rectangle.is)
    (λ x. is_stored x.cell) c.is_row_stored-in-Rectangle.result
    (λ e. sym (c.is_row_stored-in-Rectangle.ensures (Point e.0) ∙ ap (λ (r : IndexedRow). is_stored (cell_of r (Point e.0))) c.row-in-Rectangle.ensures))

pub returns-in-Numbers-clause-all : goal.returns-in-Numbers-clause-all
returns-in-Numbers-clause-all c =
    let r = c.in-Numbers.rectangle in
    row_kept c.args.form.now r.row (numbered_entries r.ranges r.numbers.items) (ap changes_in c.in-Numbers.is)
    (λ x. is_stored x.cell) c.is_row_stored-in-Numbers.result
    (λ e. sym (c.is_row_stored-in-Numbers.ensures (Point e.0) ∙ ap (λ (r : IndexedRow). is_stored (cell_of r (Point e.0))) c.row-in-Numbers.ensures))

pub returns-in-Numbers-clause-none : goal.returns-in-Numbers-clause-none
returns-in-Numbers-clause-none c =
    let r = c.in-Numbers.rectangle in
    row_dropped c.args.form.now r.row (numbered_entries r.ranges r.numbers.items) (ap changes_in c.in-Numbers.is)
    (λ x. is_stored x.cell) c.is_row_stored-in-Numbers.result
    (λ e. sym (c.is_row_stored-in-Numbers.ensures (Point e.0) ∙ ap (λ (r : IndexedRow). is_stored (cell_of r (Point e.0))) c.row-in-Numbers.ensures))

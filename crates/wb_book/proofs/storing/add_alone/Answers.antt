use Rattle.std.proofs.Common.{◌||◌, ap, ◌∙◌}
use Rattle.selective_undo.specs.Changes.{changes}
use Rattle.wb_cells.specs.declared.cells.cell.Cell.TheVariants.{Object}
use Rattle.wb_cells.specs.Cells.{cell_cmp}
use Rattle.wb_cells.specs.Runs.{changes_in, rectangle_entries, numbered_entries}
use Rattle.wb_book.proofs.Entries.{never_named, never_labelled}
use Rattle.wb_book.proofs.StoredRuns.{unnamed}
use Rattle.wb_book.proofs.storing.add_alone.Goals as goal

pub returns-in-Rank1 : goal.returns-in-Rank1
returns-in-Rank1 c = λ b.
    unnamed (changes cell_cmp c.args.alone.now.items (Object b)) (changes cell_cmp (changes_in c.args.form.now) (Object b))
    (never_named c.args.form.now c.in-Rank1.field-0.row c.in-Rank1.field-0.changes.items b (ap changes_in c.in-Rank1.is))

pub returns-in-Rank2 : goal.returns-in-Rank2
returns-in-Rank2 c = λ b.
    unnamed (changes cell_cmp c.args.alone.now.items (Object b)) (changes cell_cmp (changes_in c.args.form.now) (Object b))
    (never_named c.args.form.now c.in-Rank2.field-0.row c.in-Rank2.field-0.changes.items b (ap changes_in c.in-Rank2.is))

pub returns-in-Rank3 : goal.returns-in-Rank3
returns-in-Rank3 c = λ b.
    unnamed (changes cell_cmp c.args.alone.now.items (Object b)) (changes cell_cmp (changes_in c.args.form.now) (Object b))
    (never_named c.args.form.now c.in-Rank3.field-0.row c.in-Rank3.field-0.changes.items b (ap changes_in c.in-Rank3.is))

pub returns-in-Labels : goal.returns-in-Labels
returns-in-Labels c = λ b.
    unnamed (changes cell_cmp c.args.alone.now.items (Object b)) (changes cell_cmp (changes_in c.args.form.now) (Object b))
    (never_labelled c.args.form.now c.in-Labels.field-0.0 c.in-Labels.field-0.1 b (ap changes_in c.in-Labels.is))

pub returns-in-Rectangle : goal.returns-in-Rectangle
returns-in-Rectangle c = λ b.
    unnamed (changes cell_cmp c.args.alone.now.items (Object b)) (changes cell_cmp (changes_in c.args.form.now) (Object b))
    (never_named c.args.form.now c.in-Rectangle.field-0.row (rectangle_entries c.in-Rectangle.field-0.ranges c.in-Rectangle.field-0.number) b (ap changes_in c.in-Rectangle.is))

pub returns-in-Numbers : goal.returns-in-Numbers
returns-in-Numbers c = λ b.
    unnamed (changes cell_cmp c.args.alone.now.items (Object b)) (changes cell_cmp (changes_in c.args.form.now) (Object b))
    (never_named c.args.form.now c.in-Numbers.field-0.row (numbered_entries c.in-Numbers.field-0.ranges c.in-Numbers.field-0.numbers.items) b (ap changes_in c.in-Numbers.is))

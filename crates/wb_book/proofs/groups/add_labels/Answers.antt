use Rattle.std.proofs.Common.{◌∙◌, sym, ap, subst}
use Rattle.std.specs.Ordering.{eq_by_cmp}
use Rattle.wb_cells.specs.declared.cells.cell.Cell.TheVariants.{Element}
use Rattle.wb_cells.specs.declared.changes.row.IndexedRow.{IndexedRow}
use Rattle.wb_cells.specs.declared.values.index.Index.TheVariants.{Text}
use Rattle.wb_cells.specs.Cells.{cell_cmp}
use Rattle.wb_cells.specs.Runs.{cell_of, labelled_at}
use Rattle.wb_book.specs.Groups.{changes_in}
use Rattle.wb_book.proofs.Entries.{apart_all}
use Rattle.wb_book.proofs.groups.add_labels.Goals as goal

pub returns-in-Inside-clause-lead : goal.returns-in-Inside-clause-lead
returns-in-Inside-clause-lead c = λ before lead b.
    let l = c.args.labels.now in
    apart_all (labelled_at l.0) l.1 before b (changes_in c.args.groups.now.entries b)
    (λ y i. ap (λ (r : IndexedRow). eq_by_cmp cell_cmp (Element b i) (cell_of r (Text y.0))) (sym c.row.ensures ∙ c.in-Inside.is)) (lead b)

pub returns-in-Members-clause-lead : goal.returns-in-Members-clause-lead
returns-in-Members-clause-lead c = λ before lead b.
    let l = c.args.labels.now in
    apart_all (labelled_at l.0) l.1 before b (changes_in c.args.groups.now.entries b)
    (λ y i. ap (λ (r : IndexedRow). eq_by_cmp cell_cmp (Element b i) (cell_of r (Text y.0))) (sym c.row.ensures ∙ c.in-Members.is)) (lead b)

use Rattle.std.proofs.Common.{◌++◌, sym, ap, subst, ◌∙◌}
use Rattle.std.specs.Ordering.{eq_by_cmp}
use Rattle.std.proofs.lemmas.Result.{on_ok_weaker}
use Rattle.wb_cells.specs.declared.cells.cell.Cell.TheVariants.{Element}
use Rattle.wb_cells.specs.declared.changes.row.IndexedRow.{IndexedRow}
use Rattle.wb_cells.specs.Cells.{cell_cmp}
use Rattle.wb_cells.specs.declared.values.index.Index.TheVariants.{Point}
use Rattle.wb_cells.specs.Runs.{cell_of, packed_changes}
use Rattle.wb_book.specs.Groups.{LeadTo, changes_in}
use Rattle.wb_book.proofs.Entries.{apart_all, rows_lead}
use Rattle.wb_book.proofs.groups.add_block.Goals as goal

pub returns-in-Inside-clause-lead : goal.returns-in-Inside-clause-lead
returns-in-Inside-clause-lead g c = λ before lead b.
    apart_all _ (g.B.ChangeBlock.entries c.args.block.now) before b (changes_in c.args.groups.now.entries b)
    (λ y i. ap (λ (r : IndexedRow). eq_by_cmp cell_cmp (Element b i) (cell_of r (Point y.0))) (sym c.of_row.ensures ∙ c.in-Inside.is)) (lead b)

pub returns-in-Members-clause-lead : goal.returns-in-Members-clause-lead
returns-in-Members-clause-lead g c = λ before lead b.
    apart_all _ (g.B.ChangeBlock.entries c.args.block.now) before b (changes_in c.args.groups.now.entries b)
    (λ y i. ap (λ (r : IndexedRow). eq_by_cmp cell_cmp (Element b i) (cell_of r (Point y.0))) (sym c.of_row.ensures ∙ c.in-Members.is)) (lead b)

pub returns-in_ok-put_group-in-Elements-clause-lead : goal.returns-in_ok-put_group-in-Elements-clause-lead
returns-in_ok-put_group-in-Elements-clause-lead g c = λ before lead.
    let es = (g.B.ChangeBlock.entries c.args.block.now) in
    on_ok_weaker c.add_over.result
    (λ made b. subst (λ (r : IndexedRow). LeadTo (before ++ packed_changes r es) b (changes_in c.add_over.new.groups.entries b))
    (sym c.in-Elements.is ∙ c.of_row.ensures)
    (rows_lead Point c.in-Elements.name es before c.args.groups.now.entries c.put_group.new.groups.entries c.add_over.new.groups.entries
    c.put_group.ensures.same made lead b))
    c.add_over.ensures.added

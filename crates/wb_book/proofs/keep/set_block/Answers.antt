use Rattle.std.proofs.Common.{◌≡◌, [], refl, sym, ap, subst, ◌∙◌}
use Rattle.std.specs.List.{list_all}
use Rattle.selective_undo.specs.Changes.{apply}
use Rattle.wb_cells.specs.declared.changes.row.IndexedRow.{IndexedRow}
use Rattle.wb_cells.specs.declared.changes.row.IndexedRow.TheVariants.{Inside, Members, Elements}
use Rattle.wb_cells.specs.declared.values.index.Index.TheVariants.{Point}
use Rattle.wb_cells.specs.Cells.{Changes}
use Rattle.wb_cells.specs.Runs.{packed_changes}
use Rattle.wb_book.specs.Joined.{element_in}
use Rattle.wb_book.specs.Kept.{Agree, is_set}
use Rattle.wb_book.proofs.EntriesSet.{only_none, agree_made, there_made}
use Rattle.wb_book.proofs.keep.set_block.Goals as goal

pub returns-in-Inside-clause-agree : goal.returns-in-Inside-clause-agree
returns-in-Inside-clause-agree g c = λ s agree.
    let es = c.args.arrays.now.entries in
    let xs = g.B.ChangeBlock.entries c.args.block.now in
    let row = Inside c.in-Inside.field-0 in
    let same : packed_changes (g.B.ChangeBlock.row_of c.args.block.now) xs ≡ packed_changes row xs =
    ap (λ (r : IndexedRow). packed_changes r xs) (sym c.of_row.ensures ∙ c.in-Inside.is) in
    let none : packed_changes row xs ≡ [] =
    only_none (is_set (element_in es)) _ (λ y. refl) xs (ap (list_all (is_set (element_in es))) (sym same) ∙ c.requires) in
    subst (λ (ys : Changes). Agree es (apply ys s)) (sym (same ∙ none)) agree

pub returns-in-Members-clause-agree : goal.returns-in-Members-clause-agree
returns-in-Members-clause-agree g c = λ s agree.
    let es = c.args.arrays.now.entries in
    let xs = g.B.ChangeBlock.entries c.args.block.now in
    let row = Members c.in-Members.field-0 in
    let same : packed_changes (g.B.ChangeBlock.row_of c.args.block.now) xs ≡ packed_changes row xs =
    ap (λ (r : IndexedRow). packed_changes r xs) (sym c.of_row.ensures ∙ c.in-Members.is) in
    let none : packed_changes row xs ≡ [] =
    only_none (is_set (element_in es)) _ (λ y. refl) xs (ap (list_all (is_set (element_in es))) (sym same) ∙ c.requires) in
    subst (λ (ys : Changes). Agree es (apply ys s)) (sym (same ∙ none)) agree

pub returns-in-Elements-clause-agree : goal.returns-in-Elements-clause-agree
returns-in-Elements-clause-agree g c = λ s agree.
    let es = c.args.arrays.now.entries in
    let fs = c.set_over.new.arrays.entries in
    let xs = g.B.ChangeBlock.entries c.args.block.now in
    let same : packed_changes (g.B.ChangeBlock.row_of c.args.block.now) xs ≡ packed_changes (Elements c.in-Elements.array) xs =
    ap (λ (r : IndexedRow). packed_changes r xs) (sym c.of_row.ensures ∙ c.in-Elements.is) in
    subst (λ (ys : Changes). Agree fs (apply ys s)) (sym same)
    (agree_made Point es fs c.in-Elements.array xs c.set_over.ensures.arrays (ap (list_all (is_set (element_in es))) (sym same) ∙ c.requires) s agree)

pub returns-in-Elements-clause-there : goal.returns-in-Elements-clause-there
returns-in-Elements-clause-there g c = λ b i.
    let es = c.args.arrays.now.entries in
    let fs = c.set_over.new.arrays.entries in
    let xs = g.B.ChangeBlock.entries c.args.block.now in
    let same : packed_changes (g.B.ChangeBlock.row_of c.args.block.now) xs ≡ packed_changes (Elements c.in-Elements.array) xs =
    ap (λ (r : IndexedRow). packed_changes r xs) (sym c.of_row.ensures ∙ c.in-Elements.is) in
    there_made Point es fs c.in-Elements.array xs c.set_over.ensures.arrays (ap (list_all (is_set (element_in es))) (sym same) ∙ c.requires) b i

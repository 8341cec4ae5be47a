use Rattle.std.proofs.Common.{◌≡◌, nat_eq, Some, None, refl, sym, ap, ◌∙◌}
use Rattle.std.specs.List.{list_all}
use Rattle.wb_cells.specs.declared.values.index.Index.TheVariants.{Point}
use Rattle.wb_cells.specs.Runs.{packed_changes}
use Rattle.wb_book.specs.Joined.{element_in}
use Rattle.wb_book.specs.Kept.{array_in, is_set}
use Rattle.wb_book.proofs.EntriesSet.{none_set, sets_found, sets_none}
use Rattle.wb_book.proofs.keep.is_block_set.Goals as goal

pub returns-in-Inside : goal.returns-in-Inside
returns-in-Inside g c =
    let p = is_set (element_in c.args.arrays.now.entries) in
    let xs = g.B.ChangeBlock.entries c.args.block.now in
    ap (λ n. nat_eq n 0) c.many.ensures ∙ none_set p _ (λ y. refl) xs
    ∙ ap (λ r. list_all p (packed_changes r xs)) (sym c.in-Inside.is ∙ c.of_row.ensures)

pub returns-in-Members : goal.returns-in-Members
returns-in-Members g c =
    let p = is_set (element_in c.args.arrays.now.entries) in
    let xs = g.B.ChangeBlock.entries c.args.block.now in
    ap (λ n. nat_eq n 0) c.many-in-Members.ensures ∙ none_set p _ (λ y. refl) xs
    ∙ ap (λ r. list_all p (packed_changes r xs)) (sym c.in-Members.is ∙ c.of_row.ensures)

pub returns-in-Some : goal.returns-in-Some
returns-in-Some g c =
    let es = c.args.arrays.now.entries in
    let xs = g.B.ChangeBlock.entries c.args.block.now in
    let found : array_in es c.in-Elements.array ≡ Some c.in-Some.elements.now = sym c.in-Some.ensures.value in
    c.is_block_there.ensures ∙ sym (sets_found Point es c.in-Elements.array c.in-Some.elements.now xs found)
    ∙ ap (λ r. list_all (is_set (element_in es)) (packed_changes r xs)) (sym c.in-Elements.is ∙ c.of_row.ensures)

pub returns-in-None : goal.returns-in-None
returns-in-None g c =
    let es = c.args.arrays.now.entries in
    let xs = g.B.ChangeBlock.entries c.args.block.now in
    let gone : array_in es c.in-Elements.array ≡ None = sym c.in-None.ensures.value in
    ap (λ n. nat_eq n 0) c.many-in-None.ensures ∙ sym (sets_none Point es c.in-Elements.array xs gone)
    ∙ ap (λ r. list_all (is_set (element_in es)) (packed_changes r xs)) (sym c.in-Elements.is ∙ c.of_row.ensures)

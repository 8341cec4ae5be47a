use Rattle.std.proofs.Common.{rules, ◌≡◌, ℤ, Some, cond, w64, sym, ap, ◌∙◌}
use Rattle.std.proofs.lemmas.Int.{to_z-of_z}
use Rattle.wb_cells.specs.declared.cells.cell.Cell.TheVariants.{Element}
use Rattle.wb_cells.specs.declared.values.index.Index.{Index}
use Rattle.wb_cells.specs.Cells.{Name, is_same_name}
use Rattle.wb_book.specs.Joined.{element_in}
use Rattle.wb_book.specs.Kept.{array_in, with_element, number_in}
use Rattle.wb_book.proofs.ElementsSet.{element_set, agree_set}
use Rattle.wb_book.proofs.Same.{there_more}
use Rattle.wb_book.proofs.keep.set_one.Goals as goal

pub returns-clause-agree : goal.returns-clause-agree
returns-clause-agree c = λ s agree.
    let x = c.args.change.now in
    let es = c.args.arrays.now.entries in
    let a : Name = c.in-Element.array in
    let i : Index = c.in-Element.index in
    let v : ℤ = c.in-Some.number in
    let cell : x.cell ≡ Element a i = sym c.as_cell.ensures ∙ c.in-Element.is in
    let number : number_in x.value ≡ Some v = sym c.number_in.ensures ∙ c.in-Some.is in
    let made : (b : Name) → array_in c.set_element.new.arrays.entries b ≡ cond (is_same_name a b) (with_element (array_in es b) i v) (array_in es b) =
    λ b. c.set_element.ensures.arrays b ∙ ap (λ (w : ℤ). cond (is_same_name a b) (with_element (array_in es b) i w) (array_in es b))
    (to_z-of_z w64 v (search rules)) in
    agree_set es c.set_element.new.arrays.entries s x a i v cell number (element_set (element_in es) x a i cell c.requires).1 made agree

pub returns-clause-there : goal.returns-clause-there
returns-clause-there c = λ b j.
    let x = c.args.change.now in
    let es = c.args.arrays.now.entries in
    let a : Name = c.in-Element.array in
    let i : Index = c.in-Element.index in
    let v : ℤ = c.in-Some.number in
    let cell : x.cell ≡ Element a i = sym c.as_cell.ensures ∙ c.in-Element.is in
    let made : array_in c.set_element.new.arrays.entries b ≡ cond (is_same_name a b) (with_element (array_in es b) i v) (array_in es b) =
    c.set_element.ensures.arrays b ∙ ap (λ (w : ℤ). cond (is_same_name a b) (with_element (array_in es b) i w) (array_in es b))
    (to_z-of_z w64 v (search rules)) in
    there_more es c.set_element.new.arrays.entries a b i j v (element_set (element_in es) x a i cell c.requires).1 made

use Rattle.std.proofs.Common.{◌≡◌, ◌&&◌, ℤ, Some, is_some, IsSome, rules, cond, w64, sym, ap, ◌∙◌}
use Rattle.std.proofs.lemmas.Int.{to_z-of_z}
use Rattle.wb_cells.specs.declared.cells.cell.Cell.{Cell}
use Rattle.wb_cells.specs.declared.cells.cell.Cell.TheVariants.{Element}
use Rattle.wb_cells.specs.declared.values.index.Index.{Index}
use Rattle.wb_cells.specs.Cells.{Name, is_same_name}
use Rattle.wb_book.specs.Joined.{element_in}
use Rattle.wb_book.specs.Kept.{array_in, with_element, number_in, sets_at}
use Rattle.wb_book.proofs.ElementsSet.{agree_set}
use Rattle.wb_book.proofs.Replaced.{none_there}
use Rattle.wb_book.proofs.Same.{lie_more}
use Rattle.wb_book.proofs.keep.set_if_there.Goals as goal

pub returns-in-Some-clause-set : goal.returns-in-Some-clause-set
returns-in-Some-clause-set c =
    let x = c.args.change.now in
    let element = element_in c.args.arrays.now.entries in
    let a : Name = c.in-Element.array in
    let i : Index = c.in-Element.index in
    let cell : x.cell ≡ Element a i = sym c.as_cell.ensures ∙ c.in-Element.is in
    let number : number_in x.value ≡ Some c.in-Some.number = sym c.number_in.ensures ∙ c.in-Some.is in
    c.is_some.ensures ∙ ap is_some c.replace.ensures.was
    ∙ sym (ap (λ (k : Cell). sets_at element k x.value) cell ∙ ap (λ o. is_some o && is_some (element a i)) number)

pub returns-in-Some-clause-agree : goal.returns-in-Some-clause-agree
returns-in-Some-clause-agree c = λ e s agree.
    let x = c.args.change.now in
    let es = c.args.arrays.now.entries in
    let a : Name = c.in-Element.array in
    let i : Index = c.in-Element.index in
    let v : ℤ = c.in-Some.number in
    let cell : x.cell ≡ Element a i = sym c.as_cell.ensures ∙ c.in-Element.is in
    let number : number_in x.value ≡ Some v = sym c.number_in.ensures ∙ c.in-Some.is in
    let there : IsSome (element_in es a i) = ap is_some (sym c.replace.ensures.was) ∙ sym c.is_some.ensures ∙ e in
    let made : (b : Name) → array_in c.replace.new.arrays.entries b ≡ cond (is_same_name a b) (with_element (array_in es b) i v) (array_in es b) =
    λ b. c.replace.ensures.arrays b ∙ ap (λ (w : ℤ). cond (is_same_name a b) (with_element (array_in es b) i w) (array_in es b))
    (to_z-of_z w64 v (search rules)) in
    agree_set es c.replace.new.arrays.entries s x a i v cell number there made agree

pub returns-in-Some-clause-lie : goal.returns-in-Some-clause-lie
returns-in-Some-clause-lie c = λ b.
    let es = c.args.arrays.now.entries in
    lie_more (array_in es b) (array_in c.replace.new.arrays.entries b) (is_same_name c.in-Element.array b) c.in-Element.index _ (c.replace.ensures.arrays b)

pub returns-in-Some-clause-left : goal.returns-in-Some-clause-left
returns-in-Some-clause-left c = λ e. none_there c.replace.result _ (sym c.is_some.ensures ∙ e) c.replace.ensures.none

pub returns-in-None-clause-set : goal.returns-in-None-clause-set
returns-in-None-clause-set c =
    let x = c.args.change.now in
    let element = element_in c.args.arrays.now.entries in
    let a : Name = c.in-Element.array in
    let i : Index = c.in-Element.index in
    let cell : x.cell ≡ Element a i = sym c.as_cell.ensures ∙ c.in-Element.is in
    let number = sym c.number_in.ensures ∙ c.in-None.is in
    sym (ap (λ (k : Cell). sets_at element k x.value) cell ∙ ap (λ o. is_some o && is_some (element a i)) number)

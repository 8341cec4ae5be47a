use Rattle.std.proofs.Common.{◌≡◌, ℤ, cond, Option, Some, IsSome, IfNone, rules, w64, sym, ap, subst, ◌∙◌}
use Rattle.std.proofs.lemmas.Int.{to_z-of_z}
use Rattle.std.specs.FinMap.{get}
use Rattle.std.specs.Option.{option_map}
use Rattle.selective_undo.specs.Changes.{apply}
use Rattle.wb_cells.specs.declared.cells.cell.Cell.TheVariants.{Element}
use Rattle.wb_cells.specs.declared.cells.value.Value.TheVariants.{Number}
use Rattle.wb_cells.specs.Cells.{Name, Cells, Contents, is_same_name}
use Rattle.wb_cells.specs.WellFormed.{IsWellFormed}
use Rattle.wb_book.specs.Kept.{array_in, with_element, element_set}
use Rattle.wb_book.specs.Shelf.{cells_of}
use Rattle.wb_book.proofs.Kept.{get-cells_of}
use Rattle.wb_book.proofs.Replaced.{Replaced, replaced, same_shelf}
use Rattle.wb_book.proofs.shelf.Book.replace.Goals as goal

pub invariant_of-self : goal.invariant_of-self
invariant_of-self c =
    let p = c.self.inside in
    let a = c.args.array.now in
    let i = c.args.index.now in
    let v : ℤ = c.args.value in
    let formed : IsSome (get (cells_of p.cells p.arrays) (Element a i)) → IsWellFormed (apply (element_set a i v) (cells_of p.cells p.arrays)) =
    subst (λ (s : Contents). IsSome (get s.cells (Element a i)) → IsWellFormed (apply (element_set a i v) s.cells)) (sym c.self.view_is) c.requires in
    let made : (b : Name) → array_in c.replace.new.arrays.entries b ≡ cond (is_same_name a b) (with_element (array_in p.arrays.entries b) i v)
    (array_in p.arrays.entries b) =
    λ b. c.replace.ensures.arrays b ∙ ap (λ (w : ℤ). cond (is_same_name a b) (with_element (array_in p.arrays.entries b) i w) (array_in p.arrays.entries b))
    (to_z-of_z w64 v c.ranges.value) in
    (replaced p.cells p.arrays c.replace.new.arrays a i v c.self.invariant formed c.replace.ensures.names made c.replace.result
    c.replace.ensures.was c.replace.ensures.none).1

pub returns-in-Some-clause-was : goal.returns-in-Some-clause-was
returns-in-Some-clause-was c =
    let p = c.self.inside in
    ap (λ (s : Contents). get s.cells (Element c.args.array.now c.args.index.now)) (sym c.self.view_is)
    ∙ get-cells_of p.cells p.arrays c.self.invariant (Element c.args.array.now c.args.index.now)
    ∙ ap (option_map Number) (sym c.replace.ensures.was ∙ c.in-Some.is)
    ∙ ap (λ (w : ℤ). Some (Number w)) (sym (to_z-of_z w64 c.in-Some.was (search rules)))

pub returns-in-None-clause-was : goal.returns-in-None-clause-was
returns-in-None-clause-was c =
    let p = c.self.inside in
    ap (λ (s : Contents). get s.cells (Element c.args.array.now c.args.index.now)) (sym c.self.view_is)
    ∙ get-cells_of p.cells p.arrays c.self.invariant (Element c.args.array.now c.args.index.now)
    ∙ ap (option_map Number) (sym c.replace.ensures.was ∙ c.in-None.is)

pub returns-in-Some-clause-cells : goal.returns-in-Some-clause-cells
returns-in-Some-clause-cells c =
    let p = c.self.inside in
    let a = c.args.array.now in
    let i = c.args.index.now in
    let v : ℤ = c.args.value in
    let s : Cells = cells_of p.cells p.arrays in
    let t : Cells = cells_of p.cells c.replace.new.arrays in
    let formed : IsSome (get s (Element a i)) → IsWellFormed (apply (element_set a i v) s) =
    subst (λ (s : Contents). IsSome (get s.cells (Element a i)) → IsWellFormed (apply (element_set a i v) s.cells)) (sym c.self.view_is) c.requires in
    let made : (b : Name) → array_in c.replace.new.arrays.entries b ≡ cond (is_same_name a b) (with_element (array_in p.arrays.entries b) i v)
    (array_in p.arrays.entries b) =
    λ b. c.replace.ensures.arrays b ∙ ap (λ (w : ℤ). cond (is_same_name a b) (with_element (array_in p.arrays.entries b) i w) (array_in p.arrays.entries b))
    (to_z-of_z w64 v c.ranges.value) in
    subst (λ (o : Option ℤ). Replaced s a i v o t) c.in-Some.is
    (replaced p.cells p.arrays c.replace.new.arrays a i v c.self.invariant formed c.replace.ensures.names made c.replace.result
    c.replace.ensures.was c.replace.ensures.none).0
    ∙ ap (λ (s : Contents). apply (element_set a i v) s.cells) c.self.view_is

pub returns-in-None-clause-none : goal.returns-in-None-clause-none
returns-in-None-clause-none c =
    let p = c.self.inside in
    let left : c.replace.new.arrays.entries ≡ p.arrays.entries =
    subst (λ (o : Option ℤ). IfNone o (c.replace.new.arrays.entries ≡ p.arrays.entries)) c.in-None.is c.replace.ensures.none in
    let same = (same_shelf p.cells p.arrays c.replace.new.arrays c.self.invariant left).0 in
    rw (← c.self.view_is) (λ k. record { cells = same k; writes = p.writes })

use Rattle.std.proofs.Common.{◌≡◌, ℤ, Option, List, None, IsSome, sym, ap, subst, ◌∙◌}
use Rattle.std.specs.List.Sorted.{IsStrictlySortedBy}
use Rattle.std.specs.Map.{keys_of}
use Rattle.wb_arrays.specs.Elements.{value_at}
use Rattle.wb_cells.specs.declared.values.index.Index.{Index}
use Rattle.wb_cells.specs.Cells.{index_cmp}
use Rattle.wb_elements.specs.Piecewise.Changed.{changed_at}
use Rattle.wb_book.specs.Kept.{array_in}
use Rattle.wb_book.proofs.Grown.{none_there, put_stays, put_elements}
use Rattle.wb_elements.proofs.Ascending.{ascending-nothing}
use Rattle.wb_book.proofs.change.put_empty.Goals as goal

pub made-requires-clause-ascending : goal.made-requires-clause-ascending
made-requires-clause-ascending c = subst (λ (es : List (Index × ℤ)). IsStrictlySortedBy index_cmp (keys_of es)) (sym (c.as_slice.ensures.value ∙ c.new-pairs.ensures.items))
    (ascending-nothing index_cmp)

nothing_there : {X : Type 0} (o : Option ℤ) → o ≡ None → IsSome o → X
nothing_there o none there = cc

pub made-requires-clause-formed : goal.made-requires-clause-formed
made-requires-clause-formed c = λ i there.
    nothing_there (changed_at c.as_slice-2.result.now (value_at index_cmp c.as_slice.result.now i) i)
    (ap (λ (xs : List (Index × Option ℤ)). changed_at xs (value_at index_cmp c.as_slice.result.now i) i) (c.as_slice-2.ensures.value
    ∙ c.new-changes.ensures.items)
    ∙ ap (λ (es : List (Index × ℤ)). value_at index_cmp es i) (c.as_slice.ensures.value ∙ c.new-pairs.ensures.items)) there

pub returns-in-Ok-insert-clause-stays : goal.returns-in-Ok-insert-clause-stays
returns-in-Ok-insert-clause-stays c =
    let absent : array_in c.args.arrays.now.entries c.args.name.now ≡ None =
    none_there (array_in c.args.arrays.now.entries c.args.name.now) (sym c.contains_key.ensures ∙ c.if-contains_key.false) in
    put_stays c.args.arrays.now.entries c.insert.new.self.entries c.args.name.now c.in-Ok.empty absent (λ b. c.in-Ok-insert.ensures.updates.0 b)

pub returns-in-Ok-insert-clause-elements : goal.returns-in-Ok-insert-clause-elements
returns-in-Ok-insert-clause-elements c =
    let absent : array_in c.args.arrays.now.entries c.args.name.now ≡ None =
    none_there (array_in c.args.arrays.now.entries c.args.name.now) (sym c.contains_key.ensures ∙ c.if-contains_key.false) in
    put_elements c.args.arrays.now.entries c.insert.new.self.entries c.args.name.now c.in-Ok.empty absent (λ b. c.in-Ok-insert.ensures.updates.0 b) λ i.
    c.in-Ok.ensures.elements i
    ∙ ap (λ (xs : List (Index × Option ℤ)). changed_at xs (value_at index_cmp c.as_slice.result.now i) i) (c.as_slice-2.ensures.value
    ∙ c.new-changes.ensures.items)
    ∙ ap (λ (es : List (Index × ℤ)). value_at index_cmp es i) (c.as_slice.ensures.value ∙ c.new-pairs.ensures.items)

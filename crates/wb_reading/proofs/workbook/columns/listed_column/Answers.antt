use Rattle.std.proofs.Common.{◌≡◌, ℕ, ℤ, true, List, [], map, Option, None, IsSome, sym, ap, subst, ◌∙◌}
use Rattle.std.specs.List.{zip}
use Rattle.std.specs.List.Sorted.{IsStrictlySortedBy}
use Rattle.std.specs.Map.{keys_of}
use Rattle.wb_arrays.specs.Elements.{value_at}
use Rattle.wb_cells.specs.declared.values.index.Index.{Index}
use Rattle.wb_cells.specs.Cells.{index_cmp}
use Rattle.wb_dist.specs.Maps.{LayoutMap}
use Rattle.wb_book.specs.Piecewise.Seen.{is_of_form, MayLie}
use Rattle.wb_reading.proofs.Fitting.{column_may, column_form}
use Rattle.wb_book.specs.Piecewise.Changed.{changed_at, all_set}
use Rattle.wb_text.specs.FromLines.Told.{indices_told}
use Rattle.wb_book.proofs.Seen.{both_ok}
use Rattle.wb_text.specs.Said.{first_line_of, line_of}
use Rattle.wb_reading.proofs.Columnwise.{column_set}
use Rattle.wb_reading.proofs.workbook.columns.listed_column.Goals as goal

nothing_ascends : IsStrictlySortedBy index_cmp []
unfolding IsStrictlySortedBy
nothing_ascends = tt

pub made-requires-clause-ascending : goal.made-requires-clause-ascending
made-requires-clause-ascending c = subst (λ (es : List (Index × ℤ)). IsStrictlySortedBy index_cmp (keys_of es)) (sym (c.as_slice.ensures.value ∙ c.new-none.ensures.items))
    nothing_ascends

pub made-requires-clause-may_lie : goal.made-requires-clause-may_lie
made-requires-clause-may_lie c =
    subst (λ (l : LayoutMap × ℕ). MayLie l.0 l.1) (sym c.lies-layout.ensures)
    (column_may (map line_of c.args.lines.now) c.requires.sound c.requires.are_made c.args.domain.now)

pub made-requires-clause-formed : goal.made-requires-clause-formed
made-requires-clause-formed c = λ i there.
    let ls = map line_of c.args.lines.now in
    let d = c.args.domain.now in
    let numbers = c.args.numbers.now in
    let is = indices_told (first_line_of d ls) in
    let none = c.as_slice.ensures.value ∙ c.new-none.ensures.items in
    let listed = c.deref-2.ensures.value ∙ c.in_ok-listed.ensures in
    let set = c.as_slice-2.ensures.value ∙ c.in_ok-changes.ensures ∙ ap (λ ks. all_set (zip ks c.deref-2.result.now)) (c.deref.ensures.value ∙ c.in-Ok.ensures)
    ∙ ap (λ (xs : List ℤ). all_set (zip is xs)) listed in
    let same = ap (λ xs. changed_at xs (value_at index_cmp c.as_slice.result.now i) i) set
    ∙ ap (λ (es : List (Index × ℤ)). changed_at (all_set (zip is numbers)) (value_at index_cmp es i) i) none in
    let here : IsSome (changed_at (all_set (zip is numbers)) None i) = subst (λ (o : Option ℤ). IsSome o) same there in
    subst (λ (l : LayoutMap × ℕ). is_of_form l.1 i ≡ true) (sym c.lies-layout.ensures)
    (column_form ls c.requires.sound c.requires.are_made d numbers i here)

pub returns : goal.returns
returns c =
    let numbers = c.args.numbers.now in
    let is = indices_told (first_line_of c.args.domain.now (map line_of c.args.lines.now)) in
    let none = c.as_slice.ensures.value ∙ c.new-none.ensures.items in
    let listed = c.deref-2.ensures.value ∙ c.in_ok-listed.ensures in
    let set = c.as_slice-2.ensures.value ∙ c.in_ok-changes.ensures ∙ ap (λ ks. all_set (zip ks c.deref-2.result.now)) (c.deref.ensures.value ∙ c.in-Ok.ensures)
    ∙ ap (λ (xs : List ℤ). all_set (zip is xs)) listed in
    both_ok c.made.result _ _ _ c.made.ensures.elements c.made.ensures.lies (λ e elements lies. record {
      elements = λ i.
          elements i
          ∙ ap (λ xs. changed_at xs (value_at index_cmp c.as_slice.result.now i) i) set
          ∙ ap (λ (es : List (Index × ℤ)). changed_at (all_set (zip is numbers)) (value_at index_cmp es i) i) none
          ∙ column_set (zip is numbers) i;
      lies = lies ∙ c.lies-layout.ensures;
    })

-- New values of domains: their writes name each cell once.
use Rattle.std.proofs.Common.{◌≡◌, ℕ, ◌==◌, Bool, true, false, ℤ, List, map, length, Result, Ok, Err, refl, sym, subst, ◌∙◌}
use Rattle.std.proofs.lemmas.Bool.{eqb-true}
use Rattle.std.specs.FinMap.{get}
use Rattle.std.specs.List.{filter_map}
use Rattle.selective_undo.specs.Changes.{changes}
use Rattle.selective_undo.specs.Edit.{refuse, write}
use Rattle.wb_range.specs.Domain.{IsListedOnce}
use Rattle.wb_rect.proofs.Rectangles.{IsRectangle-sliced}
use Rattle.wb_rect.specs.ShiftTests.{has_unit_strides}
use Rattle.wb_rect.specs.Slices.{sliced}
use Rattle.wb_cells.specs.declared.cells.cell.Cell.TheVariants.{Object, Shape}
use Rattle.wb_cells.specs.declared.cells.kind.DomainKind.{DomainKind}
use Rattle.wb_cells.specs.declared.cells.kind.DomainKind.TheVariants.{Rectangular, Sparse, Associative}
use Rattle.wb_cells.specs.declared.cells.kind.Kind.{Kind}
use Rattle.wb_cells.specs.declared.cells.kind.Kind.TheVariants.{Rectangular as over_rectangular}
use Rattle.wb_cells.specs.declared.cells.pattern.Pattern.TheVariants.{Members}
use Rattle.wb_cells.specs.declared.cells.value.Binding.TheVariants.{Sparse as bound_sparse}
use Rattle.wb_cells.specs.declared.cells.value.Value.TheVariants.{Present}
use Rattle.wb_cells.specs.declared.values.index.Index.{Index}
use Rattle.wb_cells.specs.Cells.{Name, Cells, cell_cmp}
use Rattle.wb_cells.specs.Kinds.{kind_of}
use Rattle.wb_cells.specs.Readers.{seen}
use Rattle.wb_cells.specs.Shapes.{Range, indices}
use Rattle.wb_cells.specs.WellFormed.{IsWellFormed, IsRectangle, index_cell}
use Rattle.wb_reshape.specs.declared.operand.Operand.{Operand}
use Rattle.wb_reshape.specs.declared.operand.Operand.TheVariants.{Rectangle, Items, Named}
use Rattle.wb_reshape.specs.declared.new_indices.Displacement.{Displacement}
use Rattle.wb_reshape.specs.declared.new_indices.SetOperation.{SetOperation}
use Rattle.wb_reshape.specs.declared.new_indices.NewIndices.{NewIndices}
use Rattle.wb_reshape.specs.declared.new_indices.NewIndices.TheVariants.{To, Slice, Displace, Combine}
use Rattle.wb_reshape.specs.Resized.{without, elements_exchanged, resized_cells, exchanged as exchanged_cells}
use Rattle.wb_reshape.specs.Sources.{combined, displaced, can_displace}
use Rattle.wb_reshape.proofs.Fills.{arrays, zeros_once}
use Rattle.wb_reshape.proofs.Sources.{IsListedOnce-combined}
use Rattle.wb_reshape.proofs.Users.{users}
use Rattle.wb_reshape.proofs.Without.{IsListedOnce-without}
use Rattle.wb_cells.specs.declared.refusal.WhyRefused.{WhyRefused}
use Rattle.wb_cells.specs.declared.refusal.WhyRefused.TheVariants.{WrongKind}
use Rattle.wb_edit.specs.Changed.{AreApart}
use Rattle.wb_edit.specs.Trees.{Tree, judged, plain}
use Rattle.wb_edit.specs.Rectangles.{of_rank}
use Rattle.wb_edit.specs.Reshaping.{none_present, shape, member_cells, reshaped_cells, reshaped}
use Rattle.wb_edit.specs.Resizing.{fills, zeros, resized}
use Rattle.wb_edit.specs.Commands.Reshape.{to_rectangle, slice_rectangle, displace_rectangle, with_indices, to_set, combine_set, no_source, reshape_kind}
use Rattle.wb_edit.specs.Commands.Reshape.{reshape}
use Rattle.wb_edit.specs.Sources.{same_rank, alike, all_fit, slice_of, displaced_if, displacement_of, gives_rectangle, ranges_given, gives_set, indices_given}
use Rattle.wb_edit.specs.Looks.{domain_kind, member_in, members}
use Rattle.wb_edit.specs.Users.{bound}
use Rattle.wb_edit.specs.ValidSources.{IsOperand, AreNewIndices, IsOperandOnce, AreNewIndicesOnce}
use Rattle.wb_edit.proofs.IndexedRows.{changes-append}
use Rattle.wb_edit.proofs.Exchanges.{neither, none_exchanged, apart_without}
use Rattle.wb_edit.proofs.Kept.ReshapeRectangle.{slice_is, displacement_is, displaced_whole}
use Rattle.wb_edit.proofs.Members.{members_once}
use Rattle.wb_edit.proofs.Once.IndexedRows.{none_among, once_resized}
use Rattle.wb_edit.proofs.Once.Looks.{Once, once_judged, once_test, once_all, once_shape, once_inside, once_defaults, rectangle_once}

-- ---- indices of a sparse or associative domain

pub resized_once : (s : Cells) (d : Name) (kind : DomainKind) (new leaving coming : List Index) → IsListedOnce leaving → IsListedOnce coming →
    AreApart leaving coming → Once (resized d kind new leaving coming) s
resized_once s d kind new leaving coming leave come apart =
    let last : List (Name × ℤ) → Tree = λ fs. write (resized_cells (kind_of kind) d fs leaving coming) in
    once_inside s kind new (λ x. fills d kind last) (
    once_defaults s d kind last (λ fs names.
    once_resized leaving coming leave come apart (kind_of kind) d fs names))

with_indices_once : (s : Cells) (d : Name) (kind : DomainKind) (old new : List Index) → IsListedOnce old → IsListedOnce new →
    Once (with_indices d kind old new) s
with_indices_once s d kind old new before after =
    resized_once s d kind new (without new old) (without old new) (IsListedOnce-without new old before) (IsListedOnce-without old new after)
    (apart_without old new)

once_gives_set : (s : Cells) (kind : Kind) (given : Operand) (next : Unit {0} → Tree) → Once (next tt) s → Once (gives_set kind given next) s
once_gives_set s kind (Rectangle rs) next once = tt
once_gives_set s kind (Items is) next once = once_judged s (all_fit kind is) next (λ x ok. once)
once_gives_set s kind (Named e) next once =
    once_test s (Object e) domain_kind (λ other. judged (alike kind (kind_of other)) next)
    (λ other found. once_judged s (alike kind (kind_of other)) next (λ x ok. once))

once_indices_given : (s : Cells) (given : Operand) (next : List Index → Tree) → IsOperandOnce given →
    ((is : List Index) → IsListedOnce is → Once (next is) s) → Once (indices_given given next) s
once_indices_given s (Rectangle rs) next valid once = tt
once_indices_given s (Items is) next valid once = once is valid
once_indices_given s (Named e) next valid once = once _ (members_once s e)

module _ (s : Cells) (d : Name) (kind : DomainKind) (given : Operand) (valid : IsOperandOnce given) where
  abbrev indices_of_d : List Index
  indices_of_d = filter_map member_in (seen s (Members d))

  to_set_once : Once (to_set d kind given) s
  to_set_once =
      once_gives_set s (kind_of kind) given (λ x. members d (λ old. indices_given given (λ new. with_indices d kind old new))) (
      once_indices_given s given (λ new. with_indices d kind indices_of_d new) valid (λ new once.
      with_indices_once s d kind indices_of_d new (members_once s d) once))

  combine_set_once : (how : SetOperation) → Once (combine_set d kind how given) s
  combine_set_once how =
      once_gives_set s (kind_of kind) given (λ x. members d (λ old. indices_given given (λ other. with_indices d kind old (combined how other old)))) (
      once_indices_given s given (λ other. with_indices d kind indices_of_d (combined how other indices_of_d)) valid (λ other once.
      with_indices_once s d kind indices_of_d (combined how other indices_of_d) (members_once s d)
      (IsListedOnce-combined how other indices_of_d once (members_once s d))))

-- ---- ranges of a rectangular domain

-- the ranges are no other cell that is written
shape_apart : (d : Name) (rank : ℕ) (fs : List (Name × ℤ)) (leaving coming : List Index) →
    changes cell_cmp (resized_cells (over_rectangular rank) d fs leaving coming) (Shape d) ≡ false
shape_apart d rank fs leaving coming =
    changes-append (exchanged_cells (index_cell (over_rectangular rank) d) leaving coming Present) (elements_exchanged fs leaving coming) (Shape d)
    ∙ neither _ _ (none_exchanged leaving coming (index_cell (over_rectangular rank) d) Present (Shape d) (λ i. refl))
    (none_among leaving coming (Shape d) (λ a j. refl) fs)

reshaped_once : (s : Cells) (d : Name) (old new : List Range) → IsListedOnce (indices old) → IsListedOnce (indices new) → Once (reshaped d old new) s
reshaped_once s d old new before after =
    let leaving : List Index = without (indices new) (indices old) in
    let coming : List Index = without (indices old) (indices new) in
    let last : Tree = write (reshaped_cells d new (arrays s d) leaving coming) in
    let fs : List (Name × ℤ) = zeros (arrays s d) in
    once_all s (member_cells (bound bound_sparse (users s d)) leaving) (λ vs. judged (none_present vs) (λ x. last)) (
    once_judged s (none_present (map (get s) (member_cells (bound bound_sparse (users s d)) leaving))) (λ x. last) (λ x ok. (
      shape_apart d (length new) fs leaving coming,
      once_resized leaving coming (IsListedOnce-without (indices new) (indices old) before) (IsListedOnce-without (indices old) (indices new) after)
          (apart_without (indices old) (indices new)) (over_rectangular (length new)) d fs (zeros_once s d),
    )))

once_gives_rectangle : (s : Cells) (rank : ℕ) (given : Operand) (next : Unit {0} → Tree) → Once (next tt) s → Once (gives_rectangle rank given next) s
once_gives_rectangle s rank (Rectangle rs) next once = once_judged s (same_rank rank (length rs)) next (λ x ok. once)
once_gives_rectangle s rank (Items is) next once = tt
once_gives_rectangle s rank (Named e) next once =
    once_test s (Object e) domain_kind (λ kind. judged (of_rank rank (kind_of kind)) next)
    (λ kind found. once_judged s (of_rank rank (kind_of kind)) next (λ x ok. once))

once_ranges_given : (s : Cells) → IsWellFormed s → (given : Operand) (next : List Range → Tree) → IsOperand given →
    ((rank : ℕ) (rs : List Range) → IsRectangle rank rs → Once (next rs) s) → Once (ranges_given given next) s
once_ranges_given s h (Rectangle rs) next valid once = once (length rs) rs valid
once_ranges_given s h (Items is) next valid once = tt
once_ranges_given s h (Named e) next valid once = once_shape s h e next once

-- what a slice or a displacement tested
slice_alike : (old by new : List Range) → slice_of old by ≡ Ok new → length old ≡ length by
slice_alike old by new e = eqb-true (length old) (length by) (from (length old == length by) e)
  where
    from : (b : Bool) → ◌≡◌ {A = Result (List Range) WhyRefused} (elim b [ true ↦ Ok (sliced old by) | false ↦ Err WrongKind ]) (Ok new) → b ≡ true
    from true e = refl
    from false e = cc

displacement_alike : (how : Displacement) (offsets : List ℤ) (old new : List Range) → displacement_of how offsets old ≡ Ok new → length offsets ≡ length old
displacement_alike how offsets old new e = eqb-true (length offsets) (length old)
    (from (length offsets == length old) (displaced_if (has_unit_strides old) (can_displace how offsets old) (displaced how offsets old)) e)
  where
    from : (b : Bool) (r : Result (List Range) WhyRefused) → ◌≡◌ {A = Result (List Range) WhyRefused} (elim b [ true ↦ r | false ↦ Err WrongKind ]) (Ok new) →
        b ≡ true
    from true r e = refl
    from false r e = cc

module _ (s : Cells) (d : Name) (rank : ℕ) (h : IsWellFormed s) where
  to_rectangle_once : (given : Operand) → IsOperand given → Once (to_rectangle d rank given) s
  to_rectangle_once given valid =
      let last : List Range → Tree = λ old. ranges_given given (λ new. reshaped d old new) in
      once_gives_rectangle s rank given (λ x. shape d last) (
      once_shape s h d last (λ r old whole.
      once_ranges_given s h given (λ new. reshaped d old new) valid (λ q new also.
      reshaped_once s d old new (rectangle_once r old whole) (rectangle_once q new also))))

  slice_rectangle_once : (given : Operand) → IsOperand given → Once (slice_rectangle d rank given) s
  slice_rectangle_once given valid =
      let cut : List Range → List Range → Tree = λ old by. judged (slice_of old by) (λ new. reshaped d old new) in
      once_gives_rectangle s rank given (λ x. shape d (λ old. ranges_given given (cut old))) (
      once_shape s h d (λ old. ranges_given given (cut old)) (λ r old whole.
      once_ranges_given s h given (cut old) valid (λ q by also.
      once_judged s (slice_of old by) (λ new. reshaped d old new) (λ new ok.
      let same : q ≡ r = sym also.dimensions ∙ sym (slice_alike old by new ok) ∙ whole.dimensions in
      let kept : IsRectangle r new = subst (IsRectangle r) (slice_is old by new ok)
      (IsRectangle-sliced r old by whole (subst (λ n. IsRectangle n by) same also)) in
      reshaped_once s d old new (rectangle_once r old whole) (rectangle_once r new kept)))))

  displace_rectangle_once : (how : Displacement) (offsets : List ℤ) → Once (displace_rectangle d rank how offsets) s
  displace_rectangle_once how offsets =
      let last : List Range → Tree = λ old. judged (displacement_of how offsets old) (λ new. reshaped d old new) in
      once_judged s (same_rank rank (length offsets)) (λ x. shape d last) (λ x ranked.
      once_shape s h d last (λ r old whole.
      once_judged s (displacement_of how offsets old) (λ new. reshaped d old new) (λ new ok.
      let is = displacement_is how offsets old new ok in
      let kept : IsRectangle r new = subst (IsRectangle r) is.1 (displaced_whole how offsets r old whole is.0
      (displacement_alike how offsets old new ok ∙ whole.dimensions)) in
      reshaped_once s d old new (rectangle_once r old whole) (rectangle_once r new kept))))

-- ---- any domain

no_source_once : (s : Cells) (given : Operand) → Once (no_source given) s
no_source_once s (Rectangle rs) = tt
no_source_once s (Items is) = tt
no_source_once s (Named e) = once_test s (Object e) domain_kind (λ kind. refuse (plain WrongKind)) (λ kind found. tt)

kind_once : (s : Cells) (d : Name) (kind : DomainKind) (source : NewIndices) → AreNewIndices source → AreNewIndicesOnce source → IsWellFormed s →
    Once (reshape_kind d kind source) s
kind_once s d (Rectangular rank) (To given) valid once h = to_rectangle_once s d rank h given valid
kind_once s d (Rectangular rank) (Slice given) valid once h = slice_rectangle_once s d rank h given valid
kind_once s d (Rectangular rank) (Displace how offsets) valid once h = displace_rectangle_once s d rank h how offsets
kind_once s d (Rectangular rank) (Combine how given) valid once h = no_source_once s given
kind_once s d (Sparse parent rank) (To given) valid once h = to_set_once s d (Sparse parent rank) given once
kind_once s d (Sparse parent rank) (Slice given) valid once h = no_source_once s given
kind_once s d (Sparse parent rank) (Displace how offsets) valid once h = tt
kind_once s d (Sparse parent rank) (Combine how given) valid once h = no_source_once s given
kind_once s d (Associative type) (To given) valid once h = to_set_once s d (Associative type) given once
kind_once s d (Associative type) (Slice given) valid once h = no_source_once s given
kind_once s d (Associative type) (Displace how offsets) valid once h = tt
kind_once s d (Associative type) (Combine how given) valid once h = combine_set_once s d (Associative type) given once how

pub reshape_once : (s : Cells) (d : Name) (source : NewIndices) → AreNewIndices source → AreNewIndicesOnce source → IsWellFormed s → Once (reshape d source) s
reshape_once s d source valid once h = once_test s (Object d) domain_kind (λ kind. reshape_kind d kind source)
    (λ kind found. kind_once s d kind source valid once h)

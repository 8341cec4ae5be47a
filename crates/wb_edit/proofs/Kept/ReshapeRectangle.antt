-- New ranges of a rectangular domain keep a workbook well formed.
use Rattle.std.proofs.Common.{◌≡◌, ℕ, ◌==◌, Bool, true, false, ◌||◌, ℤ, List, [], ◌∷◌, map, length, Option, Some, None, is_some, Result, Ok, Err, refl, sym, ap}
use Rattle.std.proofs.Common.{subst, ◌∙◌}
use Rattle.std.proofs.lemmas.Bool.{eqb-true}
use Rattle.std.proofs.lemmas.List.Folds.{list_any-append}
use Rattle.std.specs.FinMap.{get}
use Rattle.std.specs.List.{AllByRecursion, list_any}
use Rattle.selective_undo.specs.Changes.{apply}
use Rattle.selective_undo.specs.Edit.{write}
use Rattle.wb_rect.proofs.Rectangles.{IsRectangle-sliced, IsRectangle-each_shifted}
use Rattle.wb_rect.proofs.ShiftTests.{Decides-can_shift}
use Rattle.wb_rect.specs.ShiftTests.{has_unit_strides}
use Rattle.wb_rect.specs.Slices.{sliced}
use Rattle.wb_cells.specs.declared.cells.cell.Cell.TheVariants.{Object, Shape, Member}
use Rattle.wb_cells.specs.declared.cells.kind.DomainKind.{DomainKind}
use Rattle.wb_cells.specs.declared.cells.kind.DomainKind.TheVariants.{Rectangular, Sparse, Associative}
use Rattle.wb_cells.specs.declared.cells.kind.Kind.TheVariants.{Rectangular as over_rectangular}
use Rattle.wb_cells.specs.declared.cells.value.Binding.TheVariants.{Sparse as bound_sparse}
use Rattle.wb_cells.specs.declared.cells.value.Value.{Value}
use Rattle.wb_cells.specs.declared.cells.value.Value.TheVariants.{Ranges}
use Rattle.wb_cells.specs.declared.values.index.Index.{Index}
use Rattle.wb_cells.specs.Cells.{Name, Cells}
use Rattle.wb_cells.specs.Kinds.{kind_of}
use Rattle.wb_cells.specs.Shapes.{Range, indices}
use Rattle.wb_cells.specs.WellFormed.{IsWellFormed, IsRectangle, IsShape, domain_in, domain_at}
use Rattle.wb_reshape.specs.declared.operand.Operand.{Operand}
use Rattle.wb_reshape.specs.declared.operand.Operand.TheVariants.{Rectangle, Items, Named}
use Rattle.wb_reshape.specs.declared.new_indices.Displacement.{Displacement}
use Rattle.wb_reshape.specs.declared.new_indices.Displacement.TheVariants.{Translate, Expand}
use Rattle.wb_reshape.specs.Resized.{without, resized_cells}
use Rattle.wb_reshape.specs.Sources.{displaced, can_displace}
use Rattle.wb_reshape.proofs.Fills.{arrays, zeros_fill, loses_none}
use Rattle.wb_reshape.proofs.Rectangles.{keeps_rectangles}
use Rattle.wb_reshape.proofs.Users.{users}
use Rattle.wb_cells.specs.declared.refusal.WhyRefused.{WhyRefused}
use Rattle.wb_cells.specs.declared.refusal.WhyRefused.TheVariants.{WrongKind}
use Rattle.wb_edit.specs.Trees.{Tree, judged}
use Rattle.wb_edit.specs.Rectangles.{of_rank}
use Rattle.wb_edit.specs.Reshaping.{shape_in, absent_if, none_present, shape, member_cells, none_there, reshaped_cells, reshaped}
use Rattle.wb_edit.specs.Resizing.{zeros}
use Rattle.wb_edit.specs.Commands.Reshape.{to_rectangle, slice_rectangle, displace_rectangle}
use Rattle.wb_edit.specs.Sources.{same_rank, slice_of, displaced_if, displacement_of, gives_rectangle, ranges_given}
use Rattle.wb_edit.specs.Looks.{domain_kind}
use Rattle.wb_edit.specs.Users.{bound}
use Rattle.wb_edit.specs.ValidSources.{IsOperand}
use Rattle.wb_edit.specs.Writes.{set_to}
use Rattle.wb_edit.proofs.IndexedRows.{map-append}
use Rattle.wb_edit.proofs.Kept.Fill.{keeps_all}
use Rattle.wb_edit.proofs.Kept.Resized.{holds_at}
use Rattle.wb_edit.proofs.Kept.Steps.{Keeps, keeps_read, keeps_judged, domain_is, passed_is}

-- ---- no index that leaves is in a sparse domain

absent_is : (b : Bool) (x : Unit {0}) → absent_if b ≡ Ok x → b ≡ false
absent_is true x e = cc
absent_is false x e = refl

neither : (a b : Bool) → (a || b) ≡ false → (a ≡ false) × (b ≡ false)
neither true b e = cc
neither false b e = (refl, e)

none_held : (o : Option Value) → is_some o ≡ false → o ≡ None
none_held None e = refl
none_held (Some v) e = cc

module _ (s : Cells) (is : List Index) where
  -- a domain has none of the indices
  abbrev HasNone : Name → Type 0
  HasNone e = AllByRecursion (λ i. get s (Member e i) ≡ None) is

  no_member : (e : Name) (js : List Index) → list_any is_some (map (get s) (map (Member e) js)) ≡ false → AllByRecursion (λ i. get s (Member e i) ≡ None) js
  no_member e [] none = tt
  no_member e (j ∷ js) none =
      let both = neither (is_some (get s (Member e j))) (list_any is_some (map (get s) (map (Member e) js))) none in
      (none_held (get s (Member e j)) both.0, no_member e js both.1)

  no_members : (names : List Name) → list_any is_some (map (get s) (member_cells names is)) ≡ false → AllByRecursion HasNone names
  no_members [] none = tt
  no_members (e ∷ names) none =
      let first : List (Option Value) = map (get s) (map (Member e) is) in
      let rest : List (Option Value) = map (get s) (member_cells names is) in
      let parts : list_any is_some (map (get s) (member_cells (e ∷ names) is)) ≡ (list_any is_some first || list_any is_some rest) =
      ap (list_any is_some) (map-append (get s) (map (Member e) is) (member_cells names is)) ∙ list_any-append is_some first rest in
      let both = neither (list_any is_some first) (list_any is_some rest) (sym parts ∙ none) in
      (no_member e is both.0, no_members names both.1)

  keeps_none_there : (names : List Name) (next : Unit {0} → Tree) → IsWellFormed s → ((x : Unit {0}) → AllByRecursion HasNone names → Keeps (next x) s) →
      Keeps (none_there names is next) s
  keeps_none_there names next h kept =
      keeps_all s (member_cells names is) (λ vs. judged (none_present vs) next) (
      keeps_judged s (none_present (map (get s) (member_cells names is))) next h (λ x ok. kept x (no_members names (absent_is _ x ok))))

-- ---- new ranges

reshaped_kept : (s : Cells) (d : Name) (rank : ℕ) (old new : List Range) → IsWellFormed s → domain_at s d ≡ Some (Rectangular rank) →
    get s (Shape d) ≡ Some (Ranges old) → IsRectangle rank new → Keeps (reshaped d old new) s
reshaped_kept s d rank old new h there was whole =
    let leaving : List Index = without (indices new) (indices old) in
    let coming : List Index = without (indices old) (indices new) in
    let inner : List Name = bound bound_sparse (users s d) in
    let last : Tree = write (reshaped_cells d new (arrays s d) leaving coming) in
    keeps_none_there s leaving inner (λ x. last) h (λ x none.
    subst (λ r. IsWellFormed (apply (set_to (Shape d) (Ranges new) ∷ resized_cells (over_rectangular r) d (zeros (arrays s d)) leaving coming) s))
    (sym whole.dimensions) (
    keeps_rectangles s d rank (zeros (arrays s d)) old new h there was whole (zeros_fill s d) (
    loses_none s d old (indices new) h was (λ e i sparse leaves.
    holds_at (λ j. get s (Member e j) ≡ None) leaving i (holds_at (HasNone s leaving) inner e none sparse) leaves))))

-- ---- what is given

-- what the test on it found
abbrev IsOfRank : Cells → ℕ → Operand → Type 0
IsOfRank s rank (Rectangle rs) = length rs ≡ rank
IsOfRank s rank (Items is) = ⊥
IsOfRank s rank (Named e) = domain_at s e ≡ Some (Rectangular rank)

same_rank_is : (rank n : ℕ) (x : Unit {0}) → same_rank rank n ≡ Ok x → n ≡ rank
same_rank_is rank n x e = eqb-true n rank (passed_is (n == rank) x e)

of_rank_is : (rank : ℕ) (kind : DomainKind) (x : Unit {0}) → of_rank rank (kind_of kind) ≡ Ok x → kind ≡ Rectangular rank
of_rank_is rank (Rectangular r) x e = ap Rectangular (eqb-true r rank (passed_is (r == rank) x e))
of_rank_is rank (Sparse parent r) x e = cc
of_rank_is rank (Associative type) x e = cc

module _ (s : Cells) (rank : ℕ) (h : IsWellFormed s) where
  keeps_gives_rectangle : (given : Operand) (next : Unit {0} → Tree) → ((x : Unit {0}) → IsOfRank s rank given → Keeps (next x) s) →
      Keeps (gives_rectangle rank given next) s
  keeps_gives_rectangle (Rectangle rs) next kept = keeps_judged s (same_rank rank (length rs)) next h (λ x ok. kept x (same_rank_is rank (length rs) x ok))
  keeps_gives_rectangle (Items is) next kept = h
  keeps_gives_rectangle (Named e) next kept =
      keeps_read s (Object e) (λ v. judged (domain_kind v) (λ kind. judged (of_rank rank (kind_of kind)) next)) (λ v is.
      keeps_judged s (domain_kind v) (λ kind. judged (of_rank rank (kind_of kind)) next) h (λ kind found.
      keeps_judged s (of_rank rank (kind_of kind)) next h (λ x ok.
      kept x (ap domain_in (is ∙ domain_is v kind found) ∙ ap Some (of_rank_is rank kind x ok)))))

  keeps_shape : (d : Name) (next : List Range → Tree) → domain_at s d ≡ Some (Rectangular rank) →
      ((rs : List Range) → get s (Shape d) ≡ Some (Ranges rs) → IsRectangle rank rs → Keeps (next rs) s) → Keeps (shape d next) s
  keeps_shape d next there kept =
      let found : IsShape (Some (Rectangular rank)) (get s (Shape d)) = subst (λ o. IsShape o (get s (Shape d))) there (h.shapes d) in
      keeps_read s (Shape d) (λ v. judged (shape_in v) next) (λ v is.
      subst (λ o. Keeps (judged (shape_in o) next) s) (sym found.1 ∙ is) (kept found.0 found.1 found.2))

  keeps_ranges_given : (given : Operand) (next : List Range → Tree) → IsOperand given → IsOfRank s rank given →
      ((rs : List Range) → IsRectangle rank rs → Keeps (next rs) s) → Keeps (ranges_given given next) s
  keeps_ranges_given (Rectangle rs) next valid of kept = kept rs (subst (λ n. IsRectangle n rs) of valid)
  keeps_ranges_given (Items is) next valid of kept = h
  keeps_ranges_given (Named e) next valid of kept = keeps_shape e next of (λ rs is whole. kept rs whole)

pub slice_is : (old by new : List Range) → slice_of old by ≡ Ok new → sliced old by ≡ new
slice_is old by new e = from (length old == length by) e
  where
    from : (b : Bool) → ◌≡◌ {A = Result (List Range) WhyRefused} (elim b [ true ↦ Ok (sliced old by) | false ↦ Err WrongKind ]) (Ok new) → sliced old by ≡ new
    from true e = cc
    from false e = cc

pub displacement_is : (how : Displacement) (offsets : List ℤ) (old new : List Range) → displacement_of how offsets old ≡ Ok new →
    (can_displace how offsets old ≡ true) × (displaced how offsets old ≡ new)
displacement_is how offsets old new e = from (length offsets == length old) (has_unit_strides old) (can_displace how offsets old) (displaced how offsets old) e
  where
    from : (fit unit_strides within : Bool) (rs : List Range) → ◌≡◌ {A = Result (List Range) WhyRefused}
        (elim fit [ true ↦ displaced_if unit_strides within rs | false ↦ Err WrongKind ]) (Ok new) → (within ≡ true) × (rs ≡ new)
    from true true true rs e = (refl, cc)
    from true true false rs e = cc
    from true false within rs e = cc
    from false unit_strides within rs e = cc

pub displaced_whole : (how : Displacement) (offsets : List ℤ) (rank : ℕ) (old : List Range) → IsRectangle rank old → can_displace how offsets old ≡ true →
    length offsets ≡ rank → IsRectangle rank (displaced how offsets old)
displaced_whole Translate offsets rank old whole within same =
    IsRectangle-each_shifted rank false offsets old whole ((Decides-can_shift false offsets old).0 within) same
displaced_whole Expand offsets rank old whole within same = IsRectangle-each_shifted rank true offsets old whole
    ((Decides-can_shift true offsets old).0 within) same

-- ---- the sources

module _ (s : Cells) (d : Name) (rank : ℕ) (h : IsWellFormed s) (there : domain_at s d ≡ Some (Rectangular rank)) where
  pub to_rectangle_kept : (given : Operand) → IsOperand given → Keeps (to_rectangle d rank given) s
  to_rectangle_kept given valid =
      let last : List Range → Tree = λ old. ranges_given given (λ new. reshaped d old new) in
      keeps_gives_rectangle s rank h given (λ x. shape d last) (λ x of.
      keeps_shape s rank h d last there (λ old was whole.
      keeps_ranges_given s rank h given (λ new. reshaped d old new) valid of (λ new kept.
      reshaped_kept s d rank old new h there was kept)))

  pub slice_rectangle_kept : (given : Operand) → IsOperand given → Keeps (slice_rectangle d rank given) s
  slice_rectangle_kept given valid =
      let cut : List Range → List Range → Tree = λ old by. judged (slice_of old by) (λ new. reshaped d old new) in
      keeps_gives_rectangle s rank h given (λ x. shape d (λ old. ranges_given given (cut old))) (λ x of.
      keeps_shape s rank h d (λ old. ranges_given given (cut old)) there (λ old was whole.
      keeps_ranges_given s rank h given (cut old) valid of (λ by other.
      keeps_judged s (slice_of old by) (λ new. reshaped d old new) h (λ new ok.
      reshaped_kept s d rank old new h there was (subst (IsRectangle rank) (slice_is old by new ok) (IsRectangle-sliced rank old by whole other))))))

  pub displace_rectangle_kept : (how : Displacement) (offsets : List ℤ) → Keeps (displace_rectangle d rank how offsets) s
  displace_rectangle_kept how offsets =
      let last : List Range → Tree = λ old. judged (displacement_of how offsets old) (λ new. reshaped d old new) in
      keeps_judged s (same_rank rank (length offsets)) (λ x. shape d last) h (λ x ranked.
      keeps_shape s rank h d last there (λ old was whole.
      keeps_judged s (displacement_of how offsets old) (λ new. reshaped d old new) h (λ new ok.
      let is = displacement_is how offsets old new ok in
      reshaped_kept s d rank old new h there was (subst (IsRectangle rank) is.1
      (displaced_whole how offsets rank old whole is.0 (same_rank_is rank (length offsets) x ranked))))))

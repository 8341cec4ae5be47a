-- Arrays lie as before where changes leave the objects and mappings that are there.
use Rattle.std.proofs.Common.{◌≡◌, ℕ, Bool, true, false, not, cond, ◌&&◌, [], ◌∷◌, Option, Some, None, is_some, IsSome, refl, sym, ap, subst, ◌∙◌}
use Rattle.std.specs.FinMap.{get}
use Rattle.std.specs.List.{list_all}
use Rattle.std.specs.Option.{option_map}
use Rattle.std.specs.Ordering.{eq_by_cmp}
use Rattle.selective_undo.specs.Changes.{applied, apply}
use Rattle.selective_undo.proofs.Changes.{get-put}
use Rattle.wb_cells.specs.declared.cells.cell.Cell.{Cell}
use Rattle.wb_cells.specs.declared.cells.cell.Cell.TheVariants.{Object, Shape, In, Member, Mapping, Use, Implicit, Element}
use Rattle.wb_cells.specs.declared.cells.kind.DomainKind.{DomainKind}
use Rattle.wb_cells.specs.declared.cells.kind.DomainKind.TheVariants.{Rectangular, Sparse, Associative}
use Rattle.wb_cells.specs.declared.cells.kind.KeyType.TheVariants.{Int, Text}
use Rattle.wb_cells.specs.declared.cells.kind.Kind.{Kind}
use Rattle.wb_cells.specs.declared.cells.value.Value.{Value}
use Rattle.wb_cells.specs.declared.cells.value.Value.TheVariants.{Domain, Array}
use Rattle.wb_cells.specs.Cells.{Name, Cells, Changes, cell_cmp, cell_order}
use Rattle.wb_cells.specs.Kinds.{kind_of}
use Rattle.wb_cells.specs.Locales.{mapping_in}
use Rattle.wb_cells.specs.WellFormed.{IsWellFormed, HasMapping, domain_at, domain_in, array_at}
use Rattle.wb_book.specs.Groups.{leaves_at, leaves}
use Rattle.wb_book.specs.Shelf.{lies_by, mapping_of}
use Rattle.wb_book.proofs.ElementsSet.{both_true}
use Rattle.wb_book.proofs.Present.{domain_object, array_object}
use Rattle.wb_book.proofs.Written.{one_cell as equal_cells}

-- an object or a mapping
abbrev pub is_lay : Cell → Bool
is_lay (Object n) = true
is_lay (Mapping d) = true
is_lay _ = false

not_both : (v : Option Value) (t : Bool) → t ≡ true → not (is_some v && t) ≡ true → v ≡ None
not_both None t e f = refl
not_both (Some v) true e f = cc
not_both (Some v) false e f = cc

leaving : (stored : Cell → Option Value) (c : Cell) (v : Option Value) → is_lay c ≡ true → IsSome (stored c) → leaves_at stored c v ≡ true → v ≡ None
leaving stored (Object n) v lay there left = not_both v (is_some (stored (Object n))) there left
leaving stored (Mapping d) v lay there left = not_both v (is_some (stored (Mapping d))) there left
leaving stored (Shape d) v lay there left = cc
leaving stored (In d i) v lay there left = cc
leaving stored (Member d i) v lay there left = cc
leaving stored (Use d n) v lay there left = cc
leaving stored (Implicit a) v lay there left = cc
leaving stored (Element a i) v lay there left = cc

never : (v o : Option Value) → v ≡ None → IsSome v → v ≡ o
never v o none there = cc

-- what is there before and after is the same
pub left_alone : (stored : Cell → Option Value) (c : Cell) → is_lay c ≡ true → IsSome (stored c) → (xs : Changes) (u : Cells) →
    list_all (leaves stored) xs ≡ true →
    IsSome (get (apply xs u) c) → get (apply xs u) c ≡ get u c
left_alone stored c lay here [] u left there = refl
left_alone stored c lay here (x ∷ xs) u left there =
    let parts = both_true (leaves stored x) (list_all (leaves stored) xs) left in
    let rest : get (apply xs (applied x u)) c ≡ cond (eq_by_cmp cell_cmp c x.cell) x.value (get u c) =
    left_alone stored c lay here xs (applied x u) parts.1 there ∙ get-put cell_order x u c in
    rest ∙ by (eq_by_cmp cell_cmp c x.cell) refl parts.0 (subst (λ (o : Option Value). IsSome o) rest there)
  where
    by : (t : Bool) → eq_by_cmp cell_cmp c x.cell ≡ t → leaves stored x ≡ true → IsSome (cond t x.value (get u c)) → cond t x.value (get u c) ≡ get u c
    by false e h some = refl
    by true e h some =
        let same : c ≡ x.cell = equal_cells c x.cell e in
        never x.value (get u c) (leaving stored x.cell x.value (ap is_lay (sym same) ∙ lay) (ap (λ (k : Cell). is_some (stored k)) (sym same) ∙ here) h) some

mapping_there : (t : Cells) → IsWellFormed t → (d : Name) (r : ℕ) → domain_at t d ≡ Some (Rectangular r) → IsSome (get t (Mapping d))
mapping_there t formed d r is =
    let mapped = subst (λ (k : Option DomainKind). HasMapping k (get t (Mapping d))) is (formed.mappings d) in
    ap is_some mapped.1

a_kind : (o : Option DomainKind) (k : Kind) → option_map kind_of o ≡ Some k → (j : DomainKind) × (o ≡ Some j)
a_kind None k e = cc
a_kind (Some j) k e = (j, refl)

module _ (s t : Cells) (before : IsWellFormed s) (after : IsWellFormed t)
    (same : (c : Cell) → is_lay c ≡ true → IsSome (get s c) → IsSome (get t c) → get t c ≡ get s c) where
  same_mapping : (d : Name) (r : ℕ) → domain_at s d ≡ Some (Rectangular r) → domain_at t d ≡ Some (Rectangular r) → get t (Mapping d) ≡ get s (Mapping d)
  same_mapping d r was is = same (Mapping d) refl (mapping_there s before d r was) (mapping_there t after d r is)

  same_kind : (d : Name) (k : Option DomainKind) → domain_at s d ≡ k → domain_at t d ≡ k → mapping_of t d k ≡ mapping_of s d k
  same_kind d None was is = refl
  same_kind d (Some (Rectangular r)) was is = ap (λ (o : Option Value). option_map (λ m. (m, r)) (mapping_in o)) (same_mapping d r was is)
  same_kind d (Some (Sparse parent r)) was is =
      ap (λ (o : Option Value). option_map (λ m. (m, r)) (mapping_in o))
      (same_mapping parent r
      (before.objects d (Domain (Sparse parent r)) (domain_object (get s (Object d)) (Sparse parent r) was))
      (after.objects d (Domain (Sparse parent r)) (domain_object (get t (Object d)) (Sparse parent r) is)))
  same_kind d (Some (Associative Int)) was is = refl
  same_kind d (Some (Associative Text)) was is = refl

  pub same_lies : (b d : Name) (k : Kind) → array_at s b ≡ Some (d, k) → array_at t b ≡ Some (d, k) → lies_by t (array_at t b) ≡ lies_by s (array_at s b)
  same_lies b d k was is =
      let then_kind = a_kind (domain_at s d) k (before.objects b (Array d k) (array_object (get s (Object b)) d k was)) in
      let now_kind = a_kind (domain_at t d) k (after.objects b (Array d k) (array_object (get t (Object b)) d k is)) in
      let there_then : IsSome (get s (Object d)) = ap is_some (domain_object (get s (Object d)) then_kind.0 then_kind.1) in
      let there_now : IsSome (get t (Object d)) = ap is_some (domain_object (get t (Object d)) now_kind.0 now_kind.1) in
      let domain : domain_at t d ≡ domain_at s d = ap domain_in (same (Object d) refl there_then there_now) in
      ap (lies_by t) is ∙ ap (mapping_of t d) domain ∙ same_kind d (domain_at s d) refl domain ∙ sym (ap (lies_by s) was)

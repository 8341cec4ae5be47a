-- A reshape that is accepted gives the domain the indices of its source, and reallocates the arrays over it.
use Rattle.std.proofs.Common.{◌≡◌, ◌⊎◌, inl, inr, ℕ, ◌==◌, Bool, true, false, cond, ◌&&◌, ℤ, pos, List, [], ◌∷◌, map, length, Option, Some, is_some, Ok}
use Rattle.std.proofs.Common.{refl, sym, ap, subst, ◌∙◌, arith}
use Rattle.std.proofs.lemmas.Bool.{eqb-true}
use Rattle.std.proofs.lemmas.Simd.{map-map}
use Rattle.std.specs.FinMap.{get}
use Rattle.std.specs.List.{Contains, filter_map, zip}
use Rattle.std.specs.Ordering.{eq_by_cmp}
use Rattle.selective_undo.specs.Changes.{apply}
use Rattle.selective_undo.specs.Edit.{outcome, refuse, write, written}
use Rattle.wb_sets.proofs.Members.{contains_cons}
use Rattle.wb_rect.proofs.Rectangles.{IsRectangle-sliced}
use Rattle.wb_rect.specs.Slices.{sliced}
use Rattle.wb_cells.specs.declared.cells.cell.Cell.{Cell}
use Rattle.wb_cells.specs.declared.cells.cell.Cell.TheVariants.{Object, Shape, In, Member, Mapping, Use, Implicit, Element}
use Rattle.wb_cells.specs.declared.cells.kind.DomainKind.{DomainKind}
use Rattle.wb_cells.specs.declared.cells.kind.DomainKind.TheVariants.{Rectangular, Sparse, Associative}
use Rattle.wb_cells.specs.declared.cells.kind.Kind.TheVariants.{Rectangular as OverRectangular}
use Rattle.wb_cells.specs.declared.cells.pattern.Pattern.TheVariants.{Members}
use Rattle.wb_cells.specs.declared.cells.value.Binding.TheVariants.{Sparse as BoundSparse}
use Rattle.wb_cells.specs.declared.cells.value.Value.{Value}
use Rattle.wb_cells.specs.declared.cells.value.Value.TheVariants.{Ranges, Number}
use Rattle.wb_cells.specs.declared.values.index.Index.{Index}
use Rattle.wb_cells.specs.Cells.{Name, Cells, Changes, cell_cmp, cell_order}
use Rattle.wb_cells.specs.Kinds.{kind_of}
use Rattle.wb_cells.specs.Locales.{is_index_at}
use Rattle.wb_cells.specs.Readers.{seen}
use Rattle.wb_cells.specs.Shapes.{Range, indices}
use Rattle.wb_cells.specs.WellFormed.{IsWellFormed, IsRectangle, IsShape, IsImplicit, IsNumber, domain_at, domain_in, ranges_in, has, present_if, inside_of}
use Rattle.wb_reshape.specs.declared.new_indices.Displacement.{Displacement}
use Rattle.wb_reshape.specs.declared.new_indices.NewIndices.{NewIndices}
use Rattle.wb_reshape.specs.declared.new_indices.NewIndices.TheVariants.{To, Slice, Displace, Combine}
use Rattle.wb_reshape.specs.declared.new_indices.SetOperation.{SetOperation}
use Rattle.wb_reshape.specs.declared.operand.Operand.{Operand}
use Rattle.wb_reshape.specs.declared.operand.Operand.TheVariants.{Rectangle, Items, Named}
use Rattle.wb_reshape.specs.Fills.{number_or_zero}
use Rattle.wb_reshape.specs.Laws.{AreFills}
use Rattle.wb_reshape.specs.Resized.{without, resized_cells}
use Rattle.wb_reshape.specs.Sources.{combined, keeps}
use Rattle.wb_reshape.proofs.Fills.{arrays, zeros_fill, implicits_fill}
use Rattle.wb_reshape.proofs.Gets.{after, get-apply}
use Rattle.wb_reshape.proofs.Resized.{IsResized, is_resized, is_shape}
use Rattle.wb_reshape.proofs.Sources.{has-combined}
use Rattle.wb_reshape.proofs.States.{array_over}
use Rattle.wb_reshape.proofs.Users.{users}
use Rattle.wb_edit.specs.Trees.{Tree, judged}
use Rattle.wb_edit.specs.Commands.Reshape.{to_rectangle, slice_rectangle, displace_rectangle, with_indices, to_set, combine_set, no_source, reshape_kind, reshape}
use Rattle.wb_edit.specs.Looks.{domain_kind, member_in, members}
use Rattle.wb_edit.specs.Rectangles.{of_rank}
use Rattle.wb_edit.specs.Reshaping.{shape_in, none_present, shape, member_cells, reshaped_cells, reshaped}
use Rattle.wb_edit.specs.Resizing.{all_inside, all_in_parent, defaults, fills, zeros}
use Rattle.wb_edit.specs.Sources.{same_rank, is_alike, alike, all_fit, slice_of, displacement_of, gives_rectangle, ranges_given, gives_set, indices_given}
use Rattle.wb_edit.specs.Users.{bound}
use Rattle.wb_edit.specs.ValidSources.{IsOperand, AreNewIndices}
use Rattle.wb_edit.specs.Writes.{set_to}
use Rattle.wb_edit.proofs.Kept.Reshape.{reshape_kept}
use Rattle.wb_edit.proofs.Kept.ReshapeRectangle.{slice_is, displacement_is, displaced_whole}
use Rattle.wb_edit.proofs.Kept.Steps.{domain_is, passed_is}
use Rattle.wb_edit.proofs.Members.{members_has}
use Rattle.wb_laws.specs.Reshaped.{is_given, is_displaced, is_of_source, IsReshaped}
use Rattle.wb_laws.specs.ReshapeLaw.{ReshapeLaw}
use Rattle.wb_laws.proofs.Reallocated.{index_by, reshaped_by}
use Rattle.wb_laws.proofs.Slices.{has_sliced}
use Rattle.wb_laws.proofs.Written.{Writes, writes_read, writes_judged, writes_test, writes_all}

-- ---- what new indices bring

-- each array that is filled gets its implicit value
abbrev Brought : Cells → List (Name × ℤ) → Type 0
Brought s fs = (a : Name) (v : ℤ) → Contains {X = Name × ℤ} fs (a, v) → get s (Implicit a) ≡ Some (Number v)

listed_number : (number : Name → ℤ) (ns : List Name) (n : Name) (v : ℤ) → Contains {X = Name × ℤ} (map (λ a. (a, number a)) ns) (n, v) → v ≡ number n
listed_number number [] n v there = absurd (omega (arith, there.1))
listed_number number (a ∷ ns) n v there =
    by (listed_number number ns n v) (contains_cons (a, number a) (map (λ a. (a, number a)) ns) (n, v) there.0 there.1 there.2)
  where
    by : (Contains {X = Name × ℤ} (map (λ a. (a, number a)) ns) (n, v) → v ≡ number n)
        → ◌≡◌ {A = Name × ℤ} (n, v) (a, number a) ⊎ Contains {X = Name × ℤ} (map (λ a. (a, number a)) ns) (n, v) → v ≡ number n
    by rest (inl same) = ap (λ (f : Name × ℤ). f.1) same ∙ ap number (sym (ap (λ (f : Name × ℤ). f.0) same))
    by rest (inr later) = rest later

zip_is : {X : Type 0} (f : X → ℤ) (g : Name → X) (ns : List Name) → zip ns (map f (map g ns)) ≡ map (λ a. (a, f (g a))) ns
zip_is f g [] = refl
zip_is f g (a ∷ ns) = ap (λ fs. (a, f (g a)) ∷ fs) (zip_is f g ns)

held : (v : Option Value) → IsNumber v → v ≡ Some (Number (number_or_zero v))
held v number = number.1 ∙ ap (λ z. Some (Number z)) (sym (ap number_or_zero number.1))

module _ (s : Cells) (d : Name) (h : IsWellFormed s) where
  implicit_of : (kind : DomainKind) (fs : List (Name × ℤ)) (a : Name) (v : ℤ) → domain_at s d ≡ Some kind → AreFills s d fs → Contains {X = Name × ℤ} fs (a, v) →
      IsImplicit (Some (d, kind_of kind)) (get s (Implicit a))
  implicit_of kind fs a v there are listed =
      subst (λ o. IsImplicit o (get s (Implicit a))) (array_over s h d kind there a (are.only a v listed)) (h.implicits a)

  zero_brought : (kind : DomainKind) → domain_at s d ≡ Some kind
      → ((v : Option Value) → IsImplicit (Some (d, kind_of kind)) v → v ≡ Some (Number (pos 0))) → Brought s (zeros (arrays s d))
  zero_brought kind there zero a v listed =
      zero (get s (Implicit a)) (implicit_of kind (zeros (arrays s d)) a v there (zeros_fill s d) listed)
      ∙ ap (λ z. Some (Number z)) (sym (listed_number (λ b. pos 0) (arrays s d) a v listed))

  implicit_brought : (parent : Name) (rank : ℕ) → domain_at s d ≡ Some (Sparse parent rank) →
      Brought s (zip (arrays s d) (map number_or_zero (map (λ a. get s (Implicit a)) (arrays s d))))
  implicit_brought parent rank there a v listed =
      let number : v ≡ number_or_zero (get s (Implicit a)) =
      listed_number (λ b. number_or_zero (get s (Implicit b))) (arrays s d) a v
      (subst (λ fs. Contains {X = Name × ℤ} fs (a, v)) (zip_is number_or_zero (λ b. get s (Implicit b)) (arrays s d)) listed) in
      held (get s (Implicit a)) (implicit_of (Sparse parent rank) _ a v there (implicits_fill s d parent rank h there) listed)
      ∙ ap (λ z. Some (Number z)) (sym number)

  writes_defaults : (P : Changes → Type 0) (kind : DomainKind) (next : List (Name × ℤ) → Tree) → domain_at s d ≡ Some kind →
      ((fs : List (Name × ℤ)) → AreFills s d fs → Brought s fs → Writes P s (next fs)) → Writes P s (defaults kind (arrays s d) next)
  writes_defaults P (Rectangular rank) next there w = w _ (zeros_fill s d) (zero_brought (Rectangular rank) there (λ v is. is))
  writes_defaults P (Associative type) next there w = w _ (zeros_fill s d) (zero_brought (Associative type) there (λ v is. is))
  writes_defaults P (Sparse parent rank) next there w =
      let ns : List Name = arrays s d in
      writes_all P s (map Implicit ns) (λ vs. next (zip ns (map number_or_zero vs))) (
      subst (λ vs. Writes P s (next (zip ns (map number_or_zero vs)))) (sym (map-map (get s) Implicit ns)) (
      w _ (implicits_fill s d parent rank h there) (implicit_brought parent rank there)))

-- ---- what is written

-- the changes resize the domain so that it has the indices that pass a test
record Resizes (s : Cells) (d : Name) (kind : DomainKind) (is_new : Index → Bool) (xs : Changes) : Type 0 where
  old : List Index
  new : List Index
  fills : List (Name × ℤ)
  were : (i : Index) → has old i ≡ is_index_at s d i
  are : (i : Index) → has new i ≡ is_new i
  filled : AreFills s d fills
  brought : Brought s fills
  resized : IsResized s (apply xs s) (kind_of kind) d fills (without new old) (without old new)

-- ---- sparse and associative domains

-- a domain that has members
abbrev HasList : DomainKind → Type 0
HasList (Rectangular rank) = ⊥
HasList (Sparse parent rank) = Unit {0}
HasList (Associative type) = Unit {0}

members_are : (s : Cells) (d : Name) (kind : DomainKind) (i : Index) → domain_at s d ≡ Some kind → HasList kind →
    has (filter_map member_in (seen s (Members d))) i ≡ is_index_at s d i
members_are s d (Rectangular rank) i is set = absurd set
members_are s d (Sparse parent rank) i is set = sym (members_has s d i) ∙ sym (index_by s d (Sparse parent rank) i is)
members_are s d (Associative type) i is set = sym (members_has s d i) ∙ sym (index_by s d (Associative type) i is)

module _ (s : Cells) (d : Name) (kind : DomainKind) (h : IsWellFormed s) (there : domain_at s d ≡ Some kind) where
  writes_inside : (P : Changes → Type 0) (other : DomainKind) (is : List Index) (next : Unit {0} → Tree) → Writes P s (next tt) →
      Writes P s (all_in_parent other is next)
  writes_inside P (Rectangular rank) is next w = w
  writes_inside P (Associative type) is next w = w
  writes_inside P (Sparse parent rank) is next w =
      writes_all P s (map (In parent) is) (λ vs. judged (all_inside vs) next)
      (writes_judged P s (all_inside (map (get s) (map (In parent) is))) next (λ x ok. w))

  writes_indices : (is_new : Index → Bool) (old new : List Index) → ((i : Index) → has old i ≡ is_index_at s d i) → ((i : Index) → has new i ≡ is_new i) →
      Writes (Resizes s d kind is_new) s (with_indices d kind old new)
  writes_indices is_new old new were are =
      let P : Changes → Type 0 = Resizes s d kind is_new in
      let leaving : List Index = without new old in
      let coming : List Index = without old new in
      let last : List (Name × ℤ) → Tree = λ fs. write (resized_cells (kind_of kind) d fs leaving coming) in
      writes_inside P kind new (λ x. fills d kind last) (
      writes_defaults s d h P kind last there (λ fs filled brought xs e.
      let same : resized_cells (kind_of kind) d fs leaving coming ≡ xs = cc in
      subst P same (record {
        old = old;
        new = new;
        fills = fs;
        were = were;
        are = are;
        filled = filled;
        brought = brought;
        resized = is_resized s (apply (resized_cells (kind_of kind) d fs leaving coming) s) (kind_of kind) d fs leaving coming
            (λ c other. get-apply cell_order (resized_cells (kind_of kind) d fs leaving coming) s c);
      })))

-- what is given is a set that a domain of the kind may have
abbrev IsSet : Cells → DomainKind → Operand → Type 0
IsSet s kind (Rectangle rs) = ⊥
IsSet s kind (Items is) = Unit {0}
IsSet s kind (Named e) = (other : DomainKind) × (domain_at s e ≡ Some other) × HasList other

alike_list : (kind other : DomainKind) → is_alike (kind_of kind) (kind_of other) ≡ true → HasList other
alike_list (Rectangular rank) other e = cc
alike_list (Sparse parent rank) (Rectangular r) e = cc
alike_list (Sparse parent rank) (Sparse p r) e = tt
alike_list (Sparse parent rank) (Associative t) e = tt
alike_list (Associative type) (Rectangular r) e = cc
alike_list (Associative type) (Sparse p r) e = tt
alike_list (Associative type) (Associative t) e = tt

module _ (P : Changes → Type 0) (s : Cells) where
  writes_gives_set : (kind : DomainKind) (given : Operand) (next : Unit {0} → Tree) → ((x : Unit {0}) → IsSet s kind given → Writes P s (next x)) →
      Writes P s (gives_set (kind_of kind) given next)
  writes_gives_set kind (Rectangle rs) next w = λ xs e. cc
  writes_gives_set kind (Items is) next w = writes_judged P s (all_fit (kind_of kind) is) next (λ x ok. w x tt)
  writes_gives_set kind (Named e) next w =
      writes_test P s (Object e) domain_kind (λ other. judged (alike (kind_of kind) (kind_of other)) next) (λ other found.
      writes_judged P s (alike (kind_of kind) (kind_of other)) next (λ x ok.
      w x (other, ap domain_in (domain_is (get s (Object e)) other found), alike_list kind other (passed_is (is_alike (kind_of kind) (kind_of other)) x ok))))

  writes_indices_given : (kind : DomainKind) (given : Operand) (next : List Index → Tree) → IsSet s kind given →
      ((is : List Index) → ((i : Index) → has is i ≡ is_given s given i) → Writes P s (next is)) → Writes P s (indices_given given next)
  writes_indices_given kind (Rectangle rs) next set w = absurd set
  writes_indices_given kind (Items is) next set w = w is (λ i. refl)
  writes_indices_given kind (Named e) next set w = w (filter_map member_in (seen s (Members e))) (λ i. members_are s e set.0 i set.1 set.2)

module _ (s : Cells) (d : Name) (kind : DomainKind) (h : IsWellFormed s) (there : domain_at s d ≡ Some kind) (set : HasList kind) (given : Operand) where
  abbrev old_members : List Index
  old_members = filter_map member_in (seen s (Members d))

  old_are : (i : Index) → has old_members i ≡ is_index_at s d i
  old_are i = members_are s d kind i there set

  to_set_writes : Writes (Resizes s d kind (is_of_source s d (To given))) s (to_set d kind given)
  to_set_writes =
      let P : Changes → Type 0 = Resizes s d kind (is_of_source s d (To given)) in
      let last : List Index → Tree = λ old. indices_given given (λ new. with_indices d kind old new) in
      writes_gives_set P s kind given (λ x. members d last) (λ x for.
      writes_indices_given P s kind given (λ new. with_indices d kind old_members new) for (λ new are.
      writes_indices s d kind h there (is_of_source s d (To given)) old_members new old_are are))

  combine_set_writes : (how : SetOperation) → Writes (Resizes s d kind (is_of_source s d (Combine how given))) s (combine_set d kind how given)
  combine_set_writes how =
      let P : Changes → Type 0 = Resizes s d kind (is_of_source s d (Combine how given)) in
      let last : List Index → Tree = λ old. indices_given given (λ other. with_indices d kind old (combined how other old)) in
      writes_gives_set P s kind given (λ x. members d last) (λ x for.
      writes_indices_given P s kind given (λ other. with_indices d kind old_members (combined how other old_members)) for (λ other are.
      writes_indices s d kind h there (is_of_source s d (Combine how given)) old_members (combined how other old_members) old_are (λ i.
      has-combined how other old_members i
      ∙ ap (λ b. keeps how b (has old_members i)) (are i)
      ∙ ap (keeps how (is_given s given i)) (old_are i))))

-- ---- rectangular domains

no_shape_cell : (c : Cell) (d : Name) → is_shape c ≡ false → eq_by_cmp cell_cmp c (Shape d) ≡ false
no_shape_cell (Shape n) d other = cc
no_shape_cell (Object n) d other = refl
no_shape_cell (In n i) d other = refl
no_shape_cell (Member n i) d other = refl
no_shape_cell (Mapping n) d other = refl
no_shape_cell (Use e n) d other = refl
no_shape_cell (Implicit n) d other = refl
no_shape_cell (Element a i) d other = refl

present : (b : Bool) → b ≡ is_some (present_if b)
present true = refl
present false = refl

-- what the test on it found
abbrev IsOfRank : Cells → ℕ → Operand → Type 0
IsOfRank s rank (Rectangle rs) = length rs ≡ rank
IsOfRank s rank (Items is) = ⊥
IsOfRank s rank (Named e) = domain_at s e ≡ Some (Rectangular rank)

of_rank_is : (rank : ℕ) (kind : DomainKind) (x : Unit {0}) → of_rank rank (kind_of kind) ≡ Ok x → kind ≡ Rectangular rank
of_rank_is rank (Rectangular r) x e = ap Rectangular (eqb-true r rank (passed_is (r == rank) x e))
of_rank_is rank (Sparse parent r) x e = cc
of_rank_is rank (Associative type) x e = cc

module _ (s : Cells) (h : IsWellFormed s) where
  -- the ranges of a rectangular domain have its indices
  ranges_are : (d : Name) (rank : ℕ) (rs : List Range) (i : Index) → domain_at s d ≡ Some (Rectangular rank) → get s (Shape d) ≡ Some (Ranges rs) →
      has (indices rs) i ≡ is_index_at s d i
  ranges_are d rank rs i is shape =
      present (has (indices rs) i)
      ∙ ap (λ v. is_some (inside_of (ranges_in v) i)) (sym shape)
      ∙ ap (λ v. is_some v) (sym (h.insides d i))
      ∙ sym (index_by s d (Rectangular rank) i is)

  module _ (P : Changes → Type 0) (rank : ℕ) where
    writes_shape : (d : Name) (next : List Range → Tree) → domain_at s d ≡ Some (Rectangular rank) →
        ((rs : List Range) → get s (Shape d) ≡ Some (Ranges rs) → IsRectangle rank rs → Writes P s (next rs)) → Writes P s (shape d next)
    writes_shape d next there w =
        let found : IsShape (Some (Rectangular rank)) (get s (Shape d)) = subst (λ o. IsShape o (get s (Shape d))) there (h.shapes d) in
        writes_read P s (Shape d) (λ v. judged (shape_in v) next) (
        subst (λ o. Writes P s (judged (shape_in o) next)) (sym found.1) (w found.0 found.1 found.2))

    writes_gives_rectangle : (given : Operand) (next : Unit {0} → Tree) → ((x : Unit {0}) → IsOfRank s rank given → Writes P s (next x)) →
        Writes P s (gives_rectangle rank given next)
    writes_gives_rectangle (Rectangle rs) next w = writes_judged P s (same_rank rank (length rs)) next
        (λ x ok. w x (eqb-true (length rs) rank (passed_is (length rs == rank) x ok)))
    writes_gives_rectangle (Items is) next w = λ xs e. cc
    writes_gives_rectangle (Named e) next w =
        writes_test P s (Object e) domain_kind (λ kind. judged (of_rank rank (kind_of kind)) next) (λ kind found.
        writes_judged P s (of_rank rank (kind_of kind)) next (λ x ok.
        w x (ap domain_in (domain_is (get s (Object e)) kind found) ∙ ap Some (of_rank_is rank kind x ok))))

    writes_ranges_given : (given : Operand) (next : List Range → Tree) → IsOperand given → IsOfRank s rank given →
        ((rs : List Range) → IsRectangle rank rs → ((i : Index) → has (indices rs) i ≡ is_given s given i) → Writes P s (next rs)) →
        Writes P s (ranges_given given next)
    writes_ranges_given (Rectangle rs) next valid of w = w rs (subst (λ n. IsRectangle n rs) of valid) (λ i. refl)
    writes_ranges_given (Items is) next valid of w = absurd of
    writes_ranges_given (Named e) next valid of w = writes_shape e next of (λ rs is whole. w rs whole (λ i. ranges_are e rank rs i of is))

module _ (s : Cells) (d : Name) (rank : ℕ) (h : IsWellFormed s) (there : domain_at s d ≡ Some (Rectangular rank)) where
  reshaped_writes : (is_new : Index → Bool) (old new : List Range) → get s (Shape d) ≡ Some (Ranges old) → length new ≡ rank →
      ((i : Index) → has (indices new) i ≡ is_new i) → Writes (Resizes s d (Rectangular rank) is_new) s (reshaped d old new)
  reshaped_writes is_new old new was dimensions are =
      let P : Changes → Type 0 = Resizes s d (Rectangular rank) is_new in
      let leaving : List Index = without (indices new) (indices old) in
      let coming : List Index = without (indices old) (indices new) in
      let inner : List Name = bound BoundSparse (users s d) in
      let rest : Changes = resized_cells (OverRectangular rank) d (zeros (arrays s d)) leaving coming in
      let ys : Changes = set_to (Shape d) (Ranges new) ∷ rest in
      let last : Tree = write (reshaped_cells d new (arrays s d) leaving coming) in
      let ranked : reshaped_cells d new (arrays s d) leaving coming ≡ ys =
      ap (λ r. set_to (Shape d) (Ranges new) ∷ resized_cells (OverRectangular r) d (zeros (arrays s d)) leaving coming) dimensions in
      writes_all P s (member_cells inner leaving) (λ vs. judged (none_present vs) (λ x. last)) (
      writes_judged P s (none_present (map (get s) (member_cells inner leaving))) (λ x. last) (λ x ok xs e.
      let written : reshaped_cells d new (arrays s d) leaving coming ≡ xs = cc in
      subst P (sym ranked ∙ written) (record {
        old = indices old;
        new = indices new;
        fills = zeros (arrays s d);
        were = λ i. ranges_are s h d rank old i there was;
        are = are;
        filled = zeros_fill s d;
        brought = zero_brought s d h (Rectangular rank) there (λ v is. is);
        resized = is_resized s (apply ys s) (OverRectangular rank) d (zeros (arrays s d)) leaving coming (λ c other.
            get-apply cell_order ys s c ∙ ap (λ b. after cell_cmp rest c (cond b (Some (Ranges new)) (get s c))) (no_shape_cell c d other));
      })))

  to_rectangle_writes : (given : Operand) → IsOperand given → Writes (Resizes s d (Rectangular rank) (is_of_source s d (To given))) s (to_rectangle d rank given)
  to_rectangle_writes given valid =
      let P : Changes → Type 0 = Resizes s d (Rectangular rank) (is_of_source s d (To given)) in
      let last : List Range → Tree = λ old. ranges_given given (λ new. reshaped d old new) in
      writes_gives_rectangle s h P rank given (λ x. shape d last) (λ x of.
      writes_shape s h P rank d last there (λ old was whole.
      writes_ranges_given s h P rank given (λ new. reshaped d old new) valid of (λ new also are.
      reshaped_writes (is_of_source s d (To given)) old new was also.dimensions are)))

  slice_rectangle_writes : (given : Operand) → IsOperand given →
      Writes (Resizes s d (Rectangular rank) (is_of_source s d (Slice given))) s (slice_rectangle d rank given)
  slice_rectangle_writes given valid =
      let P : Changes → Type 0 = Resizes s d (Rectangular rank) (is_of_source s d (Slice given)) in
      let cut : List Range → List Range → Tree = λ old by. judged (slice_of old by) (λ new. reshaped d old new) in
      writes_gives_rectangle s h P rank given (λ x. shape d (λ old. ranges_given given (cut old))) (λ x of.
      writes_shape s h P rank d (λ old. ranges_given given (cut old)) there (λ old was whole.
      writes_ranges_given s h P rank given (cut old) valid of (λ by also given_are.
      writes_judged P s (slice_of old by) (λ new. reshaped d old new) (λ new ok.
      let is : sliced old by ≡ new = slice_is old by new ok in
      let kept : IsRectangle rank new = subst (IsRectangle rank) is (IsRectangle-sliced rank old by whole also) in
      reshaped_writes (is_of_source s d (Slice given)) old new was kept.dimensions (λ i.
      ap (λ rs. has (indices rs) i) (sym is)
      ∙ has_sliced rank old by whole also i
      ∙ ap (λ b. b && has (indices by) i) (ranges_are s h d rank old i there was)
      ∙ ap (λ b. is_index_at s d i && b) (given_are i))))))

  displace_rectangle_writes : (how : Displacement) (offsets : List ℤ) →
      Writes (Resizes s d (Rectangular rank) (is_of_source s d (Displace how offsets))) s (displace_rectangle d rank how offsets)
  displace_rectangle_writes how offsets =
      let P : Changes → Type 0 = Resizes s d (Rectangular rank) (is_of_source s d (Displace how offsets)) in
      let last : List Range → Tree = λ old. judged (displacement_of how offsets old) (λ new. reshaped d old new) in
      writes_judged P s (same_rank rank (length offsets)) (λ x. shape d last) (λ x ranked.
      writes_shape s h P rank d last there (λ old was whole.
      writes_judged P s (displacement_of how offsets old) (λ new. reshaped d old new) (λ new ok.
      let is = displacement_is how offsets old new ok in
      let kept : IsRectangle rank new = subst (IsRectangle rank) is.1 (displaced_whole how offsets rank old whole is.0
      (eqb-true (length offsets) rank (passed_is (length offsets == rank) x ranked))) in
      reshaped_writes (is_of_source s d (Displace how offsets)) old new was kept.dimensions (λ i.
      ap (λ rs. has (indices rs) i) (sym is.1) ∙ ap (λ v. is_displaced how offsets (ranges_in v) i) (sym was)))))

-- ---- any domain

no_source_writes : (P : Changes → Type 0) (s : Cells) (given : Operand) → Writes P s (no_source given)
no_source_writes P s (Rectangle rs) = λ xs e. cc
no_source_writes P s (Items is) = λ xs e. cc
no_source_writes P s (Named e) = writes_test P s (Object e) domain_kind (λ kind. refuse _) (λ kind found xs e. cc)

kind_writes : (s : Cells) (d : Name) (kind : DomainKind) (source : NewIndices) → AreNewIndices source → IsWellFormed s → domain_at s d ≡ Some kind →
    Writes (Resizes s d kind (is_of_source s d source)) s (reshape_kind d kind source)
kind_writes s d (Rectangular rank) (To given) valid h there = to_rectangle_writes s d rank h there given valid
kind_writes s d (Rectangular rank) (Slice given) valid h there = slice_rectangle_writes s d rank h there given valid
kind_writes s d (Rectangular rank) (Displace how offsets) valid h there = displace_rectangle_writes s d rank h there how offsets
kind_writes s d (Rectangular rank) (Combine how given) valid h there = no_source_writes _ s given
kind_writes s d (Sparse parent rank) (To given) valid h there = to_set_writes s d (Sparse parent rank) h there tt given
kind_writes s d (Sparse parent rank) (Slice given) valid h there = no_source_writes _ s given
kind_writes s d (Sparse parent rank) (Displace how offsets) valid h there = λ xs e. cc
kind_writes s d (Sparse parent rank) (Combine how given) valid h there = no_source_writes _ s given
kind_writes s d (Associative type) (To given) valid h there = to_set_writes s d (Associative type) h there tt given
kind_writes s d (Associative type) (Slice given) valid h there = no_source_writes _ s given
kind_writes s d (Associative type) (Displace how offsets) valid h there = λ xs e. cc
kind_writes s d (Associative type) (Combine how given) valid h there = combine_set_writes s d (Associative type) h there tt given how

resizes_reshaped : (s : Cells) (d : Name) (kind : DomainKind) (is_new : Index → Bool) (xs : Changes) → IsWellFormed s → IsWellFormed (apply xs s) →
    domain_at s d ≡ Some kind → Resizes s d kind is_new xs → IsReshaped s (apply xs s) d is_new
resizes_reshaped s d kind is_new xs h g there r =
    reshaped_by s (apply xs s) d kind r.fills r.old r.new h g there r.were r.resized r.filled r.brought is_new r.are

pub reshape_law : ReshapeLaw
reshape_law s d source xs h valid accepted =
    let P : Changes → Type 0 = λ ys. IsWellFormed (apply ys s) → IsReshaped s (apply ys s) d (is_of_source s d source) in
    let all : Writes P s (reshape d source) =
    writes_test P s (Object d) domain_kind (λ kind. reshape_kind d kind source) (λ kind found ys e g.
    let there : domain_at s d ≡ Some kind = ap domain_in (domain_is (get s (Object d)) kind found) in
    resizes_reshaped s d kind (is_of_source s d source) ys h g there (kind_writes s d kind source valid h there ys e)) in
    let kept : IsWellFormed (apply (written (outcome (reshape d source) s)) s) = reshape_kept s d source valid h in
    subst (λ o. IsReshaped s (apply (written o) s) d (is_of_source s d source)) (sym accepted) (
    all xs accepted (subst (λ o. IsWellFormed (apply (written o) s)) accepted kept))

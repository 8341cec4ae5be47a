-- The arrays after changes, by a walk over those that are named.
use Rattle.std.proofs.Common.{◌≡◌, Bool, true, false, cond, List, [], ◌∷◌, ◌++◌, Option, Some, None, refl, sym, ap, subst, ◌∙◌, ℕ}
use Rattle.std.specs.BTreeMap.{is_at}
use Rattle.std.specs.declared.cmp.Ordering.TheVariants.{Less}
use Rattle.std.specs.Cmp.Lexicographic.{slice_cmp}
use Rattle.std.specs.List.{AllByRecursion}
use Rattle.std.specs.List.Sorted.{IsStrictlySortedBy}
use Rattle.std.specs.Map.{keys_of, lookup}
use Rattle.std.specs.Ordering.{nat_cmp}
use Rattle.std.proofs.lemmas.List.{append_assoc}
use Rattle.wb_dist.specs.Maps.{LayoutMap}
use Rattle.wb_cells.specs.declared.values.index.Index.{Index}
use Rattle.wb_cells.specs.Cells.{Name, index_cmp, is_same_name}
use Rattle.wb_book.specs.After.{IsAfter, AreAfter, with_array}
use Rattle.wb_book.specs.Groups.{Group, group_in, changes_of}
use Rattle.wb_book.specs.Kept.{Pieced, array_in}
use Rattle.wb_elements.specs.Piecewise.Changed.{changed_at}
use Rattle.wb_book.proofs.Moved.{none_above}
use Rattle.wb_book.proofs.Written.{one_name}

-- all names are after this one
abbrev AllAbove : {X : Type 0} → Name → List (Name × X) → Type 0
AllAbove n es = AllByRecursion (λ y. slice_cmp nat_cmp n y ≡ Less) (keys_of es)

abbrev Ascends : {X : Type 0} → List (Name × X) → Type 0
Ascends es = IsStrictlySortedBy (slice_cmp nat_cmp) (keys_of es)

sorted_with : (n : Name) (o : Option Pieced) (ys built : List (Name × Pieced)) → built ≡ with_array n o ys → AllAbove n ys → Ascends ys → Ascends built
unfolding IsStrictlySortedBy
sorted_with n None ys built is all s = subst (λ (zs : List (Name × Pieced)). Ascends zs) (sym is) s
sorted_with n (Some q) ys built is all s = subst (λ (zs : List (Name × Pieced)). Ascends zs) (sym is) (all, s)

first_of : (n b : Name) (o : Option Pieced) (ys built : List (Name × Pieced)) → built ≡ with_array n o ys → is_same_name b n ≡ true → AllAbove n ys →
    array_in built b ≡ o
first_of n b None ys built is same all = ap (λ zs. array_in zs b) is ∙ ap (array_in ys) (one_name b n same) ∙ none_above n ys all
first_of n b (Some q) ys built is same all = ap (λ zs. array_in zs b) is ∙ rw same refl

later_of : (n b : Name) (o : Option Pieced) (ys built : List (Name × Pieced)) → built ≡ with_array n o ys → is_same_name b n ≡ false →
    array_in built b ≡ array_in ys b
later_of n b None ys built is other = ap (λ zs. array_in zs b) is
later_of n b (Some q) ys built is other = ap (λ zs. array_in zs b) is ∙ rw other refl

not_first : (t : Bool) (x : Group) (o : Option Group) → cond t (Some x) o ≡ None → (t ≡ false) × (o ≡ None)
not_first true x o e = cc
not_first false x o e = (refl, e)

-- the elements after changes of them, however they lie
abbrev pub HasElements : Group → Pieced → Option Pieced → Type 0
HasElements xs p None = xs ≡ []
HasElements xs p (Some q) = (i : Index) → lookup (is_at (index_cmp i)) q.0 ≡ changed_at xs (lookup (is_at (index_cmp i)) p.0) i

elements_after : (xs : Group) (l : LayoutMap × ℕ) (p : Pieced) (o : Option Pieced) → IsAfter xs l p o → HasElements xs p o
elements_after xs l p None after = after.1
elements_after xs l p (Some q) after = after.1

module _ (lies : Name → Option (LayoutMap × ℕ)) (arrays : List (Name × Pieced)) where
  -- one more of the walk, which is another afterwards or stays
  pub walk_pushes : (gs rest : List (Name × Group)) (n : Name) (xs : Group) (q : Pieced) (built fresh : List (Name × Pieced)) → fresh ≡ built ++ (n, q) ∷ [] →
      ((p : Pieced) (l : LayoutMap × ℕ) → array_in arrays n ≡ Some p → lies n ≡ Some l → IsAfter xs l p (Some q)) →
      ((ys : List (Name × Pieced)) → AreAfter lies arrays ((n, xs) ∷ rest) ys → AreAfter lies arrays gs (built ++ ys)) →
      (ys : List (Name × Pieced)) → AreAfter lies arrays rest ys → AreAfter lies arrays gs (fresh ++ ys)
  walk_pushes gs rest n xs q built fresh is after ahead ys later =
      let whole : fresh ++ ys ≡ built ++ (n, q) ∷ ys = ap (λ zs. zs ++ ys) is ∙ append_assoc built ((n, q) ∷ []) ys in
      subst (λ zs. AreAfter lies arrays gs zs) (sym whole) (ahead ((n, q) ∷ ys) (Some q, ys, refl, after, later))

  pub walk_passes : (gs rest : List (Name × Group)) (n : Name) (xs : Group) (built : List (Name × Pieced)) →
      ((p : Pieced) (l : LayoutMap × ℕ) → array_in arrays n ≡ Some p → lies n ≡ Some l → IsAfter xs l p None) →
      ((ys : List (Name × Pieced)) → AreAfter lies arrays ((n, xs) ∷ rest) ys → AreAfter lies arrays gs (built ++ ys)) →
      (ys : List (Name × Pieced)) → AreAfter lies arrays rest ys → AreAfter lies arrays gs (built ++ ys)
  walk_passes gs rest n xs built after ahead ys later = ahead ys (None, ys, refl, after, later)

  -- what was built ascends
  above_with : (n m : Name) (o : Option Pieced) (ys built : List (Name × Pieced)) → built ≡ with_array m o ys → slice_cmp nat_cmp n m ≡ Less →
      AllAbove n ys → AllAbove n built
  above_with n m None ys built is low all = subst (λ (zs : List (Name × Pieced)). AllAbove n zs) (sym is) all
  above_with n m (Some q) ys built is low all = subst (λ (zs : List (Name × Pieced)). AllAbove n zs) (sym is) (low, all)

  all_above : (n : Name) (gs : List (Name × Group)) (built : List (Name × Pieced)) → AreAfter lies arrays gs built → AllAbove n gs → AllAbove n built
  all_above n [] built a all = subst (λ (zs : List (Name × Pieced)). AllAbove n zs) (sym a) tt
  all_above n (g ∷ gs) built a all = above_with n g.0 a.0 a.1 built a.2 all.0 (all_above n gs a.1 a.4 all.1)

  pub built_ascending : (gs : List (Name × Group)) (built : List (Name × Pieced)) → AreAfter lies arrays gs built → Ascends gs → Ascends built
  unfolding IsStrictlySortedBy
  built_ascending [] built a s = subst (λ (zs : List (Name × Pieced)). Ascends zs) (sym a) tt
  built_ascending (g ∷ gs) built a s = sorted_with g.0 a.0 a.1 built a.2 (all_above g.0 gs a.1 a.4 s.0) (built_ascending gs a.1 a.4 s.1)

  -- ---- what was built of a name

  after_front : (g : Name × Group) (gs : List (Name × Group)) (built : List (Name × Pieced)) (a : AreAfter lies arrays (g ∷ gs) built) → AllAbove g.0 a.1 →
      (b : Name) (xs : Group) (p : Pieced) (l : LayoutMap × ℕ) (t : Bool) → is_same_name b g.0 ≡ t → cond t (Some g.1) (group_in gs b) ≡ Some xs →
      array_in arrays b ≡ Some p → lies b ≡ Some l → (group_in gs b ≡ Some xs → IsAfter xs l p (array_in a.1 b)) → IsAfter xs l p (array_in built b)
  after_front g gs built a all b xs p l false other named found lying rest =
      subst (λ o. IsAfter xs l p o) (sym (later_of g.0 b a.0 a.1 built a.2 other)) (rest named)
  after_front g gs built a all b xs p l true same named found lying rest =
      let name : b ≡ g.0 = one_name b g.0 same in
      let is : g.1 ≡ xs = cc in
      subst (λ o. IsAfter xs l p o) (sym (first_of g.0 b a.0 a.1 built a.2 same all))
      (subst (λ (ys : Group). IsAfter ys l p a.0) is (a.3 p l (ap (array_in arrays) (sym name) ∙ found) (ap lies (sym name) ∙ lying)))

  after_in : (gs : List (Name × Group)) (built : List (Name × Pieced)) → AreAfter lies arrays gs built → Ascends gs →
      (b : Name) (xs : Group) (p : Pieced) (l : LayoutMap × ℕ) → group_in gs b ≡ Some xs → array_in arrays b ≡ Some p → lies b ≡ Some l →
      IsAfter xs l p (array_in built b)
  unfolding IsStrictlySortedBy
  after_in [] built a s b xs p l named found lying = cc
  after_in (g ∷ gs) built a s b xs p l named found lying =
      after_front g gs built a (all_above g.0 gs a.1 a.4 s.0) b xs p l (is_same_name b g.0) refl named found lying
      (λ later. after_in gs a.1 a.4 s.1 b xs p l later found lying)

  none_in : (gs : List (Name × Group)) (built : List (Name × Pieced)) → AreAfter lies arrays gs built → (b : Name) → group_in gs b ≡ None →
      array_in built b ≡ None
  none_in [] built a b none = ap (λ zs. array_in zs b) a
  none_in (g ∷ gs) built a b none =
      let parts = not_first (is_same_name b g.0) g.1 (group_in gs b) none in
      later_of g.0 b a.0 a.1 built a.2 parts.0 ∙ none_in gs a.1 a.4 b parts.1

  -- an array that is not named, and lies as before, stays
  pub after_all : (gs : List (Name × Group)) (built : List (Name × Pieced)) → AreAfter lies arrays gs built → Ascends gs →
      (b : Name) (p : Pieced) (l : LayoutMap × ℕ) → array_in arrays b ≡ Some p → lies b ≡ Some l → (group_in gs b ≡ None → p.1 ≡ l) →
      (o : Option Group) → group_in gs b ≡ o → IsAfter (changes_of o) l p (array_in built b)
  after_all gs built a s b p l found lying rests (Some xs) named = after_in gs built a s b xs p l named found lying
  after_all gs built a s b p l found lying rests None none = subst (λ o. IsAfter [] l p o) (sym (none_in gs built a b none)) (rests none, refl)

  -- the same of the elements, also where an array that is not named should lie otherwise
  pub elements_all : (gs : List (Name × Group)) (built : List (Name × Pieced)) → AreAfter lies arrays gs built → Ascends gs →
      (b : Name) (p : Pieced) (l : LayoutMap × ℕ) → array_in arrays b ≡ Some p → lies b ≡ Some l →
      (o : Option Group) → group_in gs b ≡ o → HasElements (changes_of o) p (array_in built b)
  elements_all gs built a s b p l found lying (Some xs) named =
      elements_after xs l p (array_in built b) (after_in gs built a s b xs p l named found lying)
  elements_all gs built a s b p l found lying None none = subst (λ o. HasElements [] p o) (sym (none_in gs built a b none)) refl

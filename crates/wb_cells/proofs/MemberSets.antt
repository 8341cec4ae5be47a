-- Keys of one form, and the indices that they stand for.
use Rattle.std.proofs.Common.{◌≡◌, ℕ, Bool, true, false, cond, not, ◌&&◌, ◌||◌, List, [], ◌∷◌, map, Result, Ok, Err, OnErr, refl, sym, ap, subst, ◌∙◌}
use Rattle.std.specs.BTreeMap.{is_at}
use Rattle.std.specs.BTreeSet.{insert_key}
use Rattle.std.specs.Cmp.{eq_by_cmp_equiv}
use Rattle.std.specs.List.{AllByRecursion, list_all, list_any}
use Rattle.std.specs.List.Sorted.{IsStrictlySortedBy}
use Rattle.std.specs.Ordering.{is_eq, match_ordering}
use Rattle.std.specs.Set.{remove_key}
use Rattle.std.specs.declared.cmp.Ordering.{Ordering}
use Rattle.std.specs.declared.cmp.Ordering.TheVariants.{Less, Equal, Greater}
use Rattle.wb_cells.specs.contracts.values.index.IndexOrd.TheImpl.Laws as index_laws
use Rattle.wb_cells.specs.declared.values.index.Index.{Index}
use Rattle.wb_cells.specs.Cells.{index_cmp, index_cmp-IsAntisymmetric, is_same_index}
use Rattle.wb_cells.specs.declared.values.index.Index.TheVariants.{Text}
use Rattle.wb_cells.specs.Kinds.{is_text}
use Rattle.wb_cells.specs.WellFormed.{has}

equal : (o : Ordering) → is_eq o ≡ true → o ≡ Equal
equal Less h = cc
equal Equal h = refl
equal Greater h = cc

pub same_index : (i j : Index) → is_same_index i j ≡ true → i ≡ j
same_index i j h = index_cmp-IsAntisymmetric i j (equal (index_cmp i j) h)

-- an index of another form is none of them
pub has_none : (is_of : Index → Bool) (is : List Index) (i : Index) → list_all is_of is ≡ true → is_of i ≡ false → has is i ≡ false
has_none is_of [] i all other = refl
has_none is_of (j ∷ is) i all other = by (is_same_index i j) refl (is_of j) refl all (λ more. has_none is_of is i more other)
  where
    by : (b : Bool) → is_same_index i j ≡ b → (form : Bool) → is_of j ≡ form → form && list_all is_of is ≡ true →
        (list_all is_of is ≡ true → has is i ≡ false) → b || has is i ≡ false
    by true e form f more rest =
        let one : i ≡ j = same_index i j e in
        let both : form ≡ false = sym f ∙ ap is_of (sym one) ∙ other in
        let never : false && list_all is_of is ≡ true = subst (λ (x : Bool). x && list_all is_of is ≡ true) both more in
        cc
    by false e true f more rest = rest more
    by false e false f more rest = cc

-- what is not there is not taken out
pub has_less_none : (is : List Index) (i : Index) → has is i ≡ false → (j : Index) → has is j ≡ not (is_same_index j i) && has is j
has_less_none is i none j = by (is_same_index j i) refl
  where
    by : (b : Bool) → is_same_index j i ≡ b → has is j ≡ not b && has is j
    by true e = ap (has is) (same_index j i e) ∙ none
    by false e = refl

-- what holds in any case
pub anyway : {A E : Type 0} (r : Result A E) (P : Type 0) → P → OnErr r P
anyway (Ok x) P p = tt
anyway (Err e) P p = p

-- any index has a form
pub all_any : (is : List Index) → list_all (λ i. true) is ≡ true
all_any [] = refl
all_any (i ∷ is) = all_any is

-- the indices of labels are texts
pub all_texts : (texts : List (List ℕ)) → list_all is_text (map Text texts) ≡ true
all_texts [] = refl
all_texts (t ∷ texts) = all_texts texts

module _ {K : Type 0} (cmp : K → K → Ordering) (f : K → Index) (alike : (x y : K) → index_cmp (f x) (f y) ≡ cmp x y) where
  -- the index of a key is among them just where the key is
  pub has_key : (ks : List K) (k : K) → has (map f ks) (f k) ≡ list_any (is_at (cmp k)) ks
  has_key [] k = refl
  has_key (x ∷ ks) k = ap (λ o. is_eq o || has (map f ks) (f k)) (alike k x) ∙ ap (λ b. is_eq (cmp k x) || b) (has_key ks k)

  one_index : (x y : K) → cmp x y ≡ Equal → f x ≡ f y
  one_index x y e = index_cmp-IsAntisymmetric (f x) (f y) (alike x y ∙ e)

  -- ---- they ascend as the keys do

  above : (x : K) (ks : List K) → AllByRecursion (λ y. cmp x y ≡ Less) ks → AllByRecursion (λ j. index_cmp (f x) j ≡ Less) (map f ks)
  above x [] all = tt
  above x (y ∷ ks) all = (alike x y ∙ all.0, above x ks all.1)

  pub indices_ascend : (ks : List K) → IsStrictlySortedBy cmp ks → IsStrictlySortedBy index_cmp (map f ks)
  unfolding IsStrictlySortedBy
  indices_ascend [] s = tt
  indices_ascend (x ∷ ks) s = (above x ks s.0, indices_ascend ks s.1)

  -- ---- a key more

  or_or : (a b : Bool) → a || b ≡ a || (a || b)
  or_or true b = refl
  or_or false b = refl

  or_swap : (a b c : Bool) → a || (b || c) ≡ b || (a || c)
  or_swap true true c = refl
  or_swap true false c = refl
  or_swap false b c = refl

  pub has_more : (ks : List K) (k : K) (j : Index) → has (map f (insert_key cmp ks k)) j ≡ is_same_index j (f k) || has (map f ks) j
  has_more [] k j = refl
  has_more (x ∷ ks) k j = by (cmp k x) refl (has_more ks k j)
    where
      by : (o : Ordering) → cmp k x ≡ o → has (map f (insert_key cmp ks k)) j ≡ is_same_index j (f k) || has (map f ks) j → has (map f (match_ordering o (k ∷ x ∷ ks) (x ∷ ks) (x ∷ insert_key cmp ks k))) j ≡
          is_same_index j (f k) || (is_same_index j (f x) || has (map f ks) j)
      by Less e rest = refl
      by Equal e rest = or_or (is_same_index j (f x)) (has (map f ks) j)
          ∙ ap (λ (i : Index). is_same_index j i || (is_same_index j (f x) || has (map f ks) j)) (sym (one_index k x e))
      by Greater e rest = ap (λ b. is_same_index j (f x) || b) rest ∙ or_swap (is_same_index j (f x)) (is_same_index j (f k)) (has (map f ks) j)

  pub kept_more : (is_of : Index → Bool) (ks : List K) (k : K) → list_all is_of (map f ks) ≡ true → is_of (f k) ≡ true →
      list_all is_of (map f (insert_key cmp ks k)) ≡ true
  kept_more is_of [] k all here = ap (λ b. b && true) here
  kept_more is_of (x ∷ ks) k all here = by (cmp k x) (is_of (f x)) refl all (λ more. kept_more is_of ks k more here)
    where
      by : (o : Ordering) (b : Bool) → is_of (f x) ≡ b → b && list_all is_of (map f ks) ≡ true →
          (list_all is_of (map f ks) ≡ true → list_all is_of (map f (insert_key cmp ks k)) ≡ true) →
          list_all is_of (map f (match_ordering o (k ∷ x ∷ ks) (x ∷ ks) (x ∷ insert_key cmp ks k))) ≡ true
      by Less true e more rest = ap (λ b. b && (is_of (f x) && list_all is_of (map f ks))) here ∙ ap (λ b. b && list_all is_of (map f ks)) e ∙ more
      by Equal true e more rest = ap (λ b. b && list_all is_of (map f ks)) e ∙ more
      by Greater true e more rest = ap (λ b. b && list_all is_of (map f (insert_key cmp ks k))) e ∙ rest more
      by o false e more rest = cc

  -- ---- a key less

  not_above : (j : Index) (x : K) (ks : List K) → AllByRecursion (λ y. cmp x y ≡ Less) ks → j ≡ f x → has (map f ks) j ≡ false
  not_above j x [] all e = refl
  not_above j x (y ∷ ks) all e =
      ap (λ o. is_eq o || has (map f ks) j) (ap (λ (i : Index). index_cmp i (f y)) e ∙ alike x y ∙ all.0) ∙ not_above j x ks all.1 e

  unlike : (k x : K) (j : Index) (o : Ordering) → cmp k x ≡ o → is_eq o ≡ false → is_same_index j (f x) ≡ true → is_same_index j (f k) ≡ false
  unlike k x j o e apart h =
      ap (λ (i : Index). is_same_index i (f k)) (same_index j (f x) h) ∙ (eq_by_cmp_equiv index_laws.total-law).symm (f x) (f k) ∙ ap is_eq (alike k x ∙ e) ∙ apart

  pub has_less : (ks : List K) (k : K) (j : Index) → IsStrictlySortedBy cmp ks →
      has (map f (remove_key (is_at (cmp k)) ks)) j ≡ not (is_same_index j (f k)) && has (map f ks) j
  unfolding IsStrictlySortedBy
  has_less [] k j s = by (is_same_index j (f k))
    where
      by : (b : Bool) → false ≡ not b && false
      by true = refl
      by false = refl
  has_less (x ∷ ks) k j s = by (cmp k x) refl (is_same_index j (f x)) refl (has_less ks k j s.1)
    where
      by : (o : Ordering) → cmp k x ≡ o → (b : Bool) → is_same_index j (f x) ≡ b →
          has (map f (remove_key (is_at (cmp k)) ks)) j ≡ not (is_same_index j (f k)) && has (map f ks) j →
          has (map f (cond (is_eq o) ks (x ∷ remove_key (is_at (cmp k)) ks))) j ≡ not (is_same_index j (f k)) && (b || has (map f ks) j)
      by Equal e true h rest =
          let same : is_same_index j (f k) ≡ true = ap (λ (i : Index). is_same_index j i) (one_index k x e) ∙ h in
          not_above j x ks s.0 (same_index j (f x) h) ∙ sym (ap (λ b. not b && true) same)
      by Equal e false h rest =
          let other : is_same_index j (f k) ≡ false = ap (λ (i : Index). is_same_index j i) (one_index k x e) ∙ h in
          sym (ap (λ b. not b && has (map f ks) j) other)
      by Less e true h rest = ap (λ b. b || has (map f (remove_key (is_at (cmp k)) ks)) j) h ∙ sym (ap (λ b. not b && true) (unlike k x j Less e refl h))
      by Less e false h rest = ap (λ b. b || has (map f (remove_key (is_at (cmp k)) ks)) j) h ∙ rest
      by Greater e true h rest = ap (λ b. b || has (map f (remove_key (is_at (cmp k)) ks)) j) h ∙ sym (ap (λ b. not b && true) (unlike k x j Greater e refl h))
      by Greater e false h rest = ap (λ b. b || has (map f (remove_key (is_at (cmp k)) ks)) j) h ∙ rest

  pub kept_less : (is_of : Index → Bool) (test : K → Bool) (ks : List K) → list_all is_of (map f ks) ≡ true → list_all is_of (map f (remove_key test ks)) ≡ true
  kept_less is_of test [] all = refl
  kept_less is_of test (x ∷ ks) all = by (test x) (is_of (f x)) refl all (λ more. kept_less is_of test ks more)
    where
      by : (t b : Bool) → is_of (f x) ≡ b → b && list_all is_of (map f ks) ≡ true →
          (list_all is_of (map f ks) ≡ true → list_all is_of (map f (remove_key test ks)) ≡ true) → list_all is_of (map f (cond t ks (x ∷ remove_key test ks))) ≡ true
      by true true e more rest = more
      by false true e more rest = ap (λ b. b && list_all is_of (map f (remove_key test ks))) e ∙ rest more
      by t false e more rest = cc

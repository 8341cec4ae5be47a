-- What a finite map holds after changes, one key at a time.
use Rattle.std.proofs.Common.{◌≡◌, Bool, true, false, cond, ◌||◌, List, [], ◌∷◌, ◌++◌, map, Option, Some, refl, ap, ◌∙◌, Ordering}
use Rattle.std.specs.Ordering.{eq_by_cmp}
use Rattle.std.specs.Cmp.{Equal-is}
use Rattle.std.specs.List.{list_any}
use Rattle.std.specs.FinMap.{FinMap, get}
use Rattle.selective_undo.specs.declared.Change.{Change}
use Rattle.selective_undo.specs.Changes.{IsOrder, applied, apply}
use Rattle.selective_undo.proofs.Changes.{get-put}

pub cond-or : {A : Type 0} (a b : Bool) (x y : A) → cond b x (cond a x y) ≡ cond (a || b) x y
cond-or true true x y = refl
cond-or true false x y = refl
cond-or false b x y = refl

pub list_any-nowhere : {A : Type 0} (xs : List A) → list_any (λ x. false) xs ≡ false
list_any-nowhere [] = refl
list_any-nowhere (x ∷ xs) = list_any-nowhere xs

pub list_any-map : {A B : Type 0} (p : B → Bool) (f : A → B) (xs : List A) → list_any p (map f xs) ≡ list_any (λ x. p (f x)) xs
list_any-map p f [] = refl
list_any-map p f (x ∷ xs) = ap (λ b. p (f x) || b) (list_any-map p f xs)

module _ {K V : Type 0} (order : K → K → Ordering) where
  -- what a key holds after the changes, where it held o: this computes
  abbrev pub after : List (Change K V) → K → Option V → Option V
  after [] c o = o
  after (x ∷ xs) c o = after xs c (cond (eq_by_cmp order c x.cell) x.value o)

  -- changes and then others
  pub after-append : (xs ys : List (Change K V)) (c : K) (o : Option V) → after (xs ++ ys) c o ≡ after ys c (after xs c o)
  after-append [] ys c o = refl
  after-append (x ∷ xs) ys c o = after-append xs ys c (cond (eq_by_cmp order c x.cell) x.value o)

  -- one value, or nothing, at each of some keys
  abbrev pub each : {A : Type 0} → (A → K) → List A → Option V → List (Change K V)
  each make is v = map (λ k. record { cell = k; value = v }) (map make is)

  -- a key that is one of them holds it, another one what it held
  pub after-each : {A : Type 0} (make : A → K) (is : List A) (v : Option V) (c : K) (o : Option V) →
      after (each make is v) c o ≡ cond (list_any (λ i. eq_by_cmp order c (make i)) is) v o
  after-each make [] v c o = refl
  after-each make (i ∷ is) v c o =
      after-each make is v c (cond (eq_by_cmp order c (make i)) v o)
      ∙ cond-or (eq_by_cmp order c (make i)) (list_any (λ i. eq_by_cmp order c (make i)) is) v o

  -- a key that is none of them holds what it held
  pub each-beside : {A : Type 0} (make : A → K) (is : List A) (v : Option V) (c : K) (o : Option V) → ((i : A) → eq_by_cmp order c (make i) ≡ false) →
      after (each make is v) c o ≡ o
  each-beside make [] v c o beside = refl
  each-beside make (i ∷ is) v c o beside = each-beside make is v c (cond (eq_by_cmp order c (make i)) v o) beside ∙ ap (λ b. cond b v o) (beside i)

  -- one value at each of some keys
  abbrev pub column : {A : Type 0} → (A → K) → List A → V → List (Change K V)
  column make is v = each make is (Some v)

  -- at a key of the column, the value
  pub after-column : {A : Type 0} (make : A → K) (is : List A) (v : V) (c : K) (o : Option V) →
      after (column make is v) c o ≡ cond (list_any (λ i. eq_by_cmp order c (make i)) is) (Some v) o
  after-column make is v = after-each make is (Some v)

  -- a key that is none of them holds what it held
  pub after-beside : {A : Type 0} (make : A → K) (is : List A) (v : V) (c : K) (o : Option V) → ((i : A) → eq_by_cmp order c (make i) ≡ false) →
      after (column make is v) c o ≡ o
  after-beside make is v = each-beside make is (Some v)

module _ {K : Type 0} {order : K → K → Ordering} (ordered : IsOrder order) where
  -- keys that compare equal are one
  pub same_key : (p q : K) → eq_by_cmp order p q ≡ true → p ≡ q
  same_key p q e = ordered.strict p q ((Equal-is _).0 e)

  -- what the changes leave at a key follows from what it held
  pub get-apply : {V : Type 0} (xs : List (Change K V)) (s : FinMap order V) (c : K) → get (apply xs s) c ≡ after order xs c (get s c)
  get-apply [] s c = refl
  get-apply (x ∷ xs) s c = get-apply xs (applied x s) c ∙ ap (after order xs c) (get-put ordered x s c)

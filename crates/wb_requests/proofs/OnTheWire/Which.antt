-- Which field is told of, where an object has none of the forms of its op.
use Rattle.std.proofs.Common.{◌≡◌, ◌⊎◌, inl, inr, ℕ, Bool, true, false, List, [], ◌∷◌, codes, Option, Some, None, is_some, refl, sym, ap, ◌∙◌, subst, arith}
use Rattle.std.proofs.Common.{if◌then◌else◌}
use Rattle.std.specs.Prelude.{bytes_eq, Contains}
use Rattle.std.specs.List.{list_all}
use Rattle.std.proofs.lemmas.List.Elements.{All-contains}
use Rattle.std.proofs.lemmas.List.Sums.{AllPass-from_list_all}
use Rattle.serde_json.specs.Data.{Data, object, Members, no_members, member}
use Rattle.serde_json.specs.Find.{get_member}
use Rattle.wb_sets.proofs.Members.{contains_cons, cons_contains, first_contains}
use Rattle.wb_requests.specs.Explained.{has, is_there, forms_of, some_has, foreign_in, missing_in, HasForeign, LacksField}
use Rattle.wb_requests.specs.Wire.Faults.{forms, NamesOp}
use Rattle.wb_requests.proofs.OnTheWire.Members.{true_false, found_by, same_key, equal_key}
use Rattle.wb_requests.proofs.OnTheWire.Values.{no_some, some_same}

-- ---- keys and forms as lists

later : (b c : Bool) → c ≡ true → (if b then true else c) ≡ true
later true c e = refl
later false c e = e

either : (b c : Bool) → (if b then true else c) ≡ true → (b ≡ true) ⊎ (c ≡ true)
either true c e = inl refl
either false c e = inr e

pub has_contains : (ks : List (List ℕ)) (k : List ℕ) → has ks k ≡ true → Contains ks k
has_contains [] k e = true_false (sym e)
has_contains (l ∷ ks) k e = by (λ more. has_contains ks k more) (either (bytes_eq l k) (has ks k) e)
  where
    by : (has ks k ≡ true → Contains ks k) → (bytes_eq l k ≡ true) ⊎ (has ks k ≡ true) → Contains (l ∷ ks) k
    by rest (inl same) = first_contains l ks k (sym (equal_key l k same))
    by rest (inr more) = cons_contains l ks k (rest more)

pub contains_has : (ks : List (List ℕ)) (k : List ℕ) → Contains ks k → has ks k ≡ true
contains_has [] k c = absurd (let l = c.1 in omega (arith, l))
contains_has (l ∷ ks) k c = by (λ more. contains_has ks k more) (contains_cons l ks k c.0 c.1 c.2)
  where
    by : (Contains ks k → has ks k ≡ true) → (k ≡ l) ⊎ Contains ks k → has (l ∷ ks) k ≡ true
    by rest (inl same) = ap (λ (b : Bool). if b then true else has ks k) (subst (λ m. bytes_eq l m ≡ true) (sym same) (same_key l))
    by rest (inr more) = later (bytes_eq l k) (has ks k) (rest more)

pub form_contained : (op : List ℕ) (keys : List (List ℕ)) (xs : List (List ℕ × List (List ℕ))) → Contains xs (op, keys) → Contains (forms_of op xs) keys
form_contained op keys [] c = absurd (let l = c.1 in omega (arith, l))
form_contained op keys (x ∷ xs) c = elim (bytes_eq x.0 op) as
    (λ b. bytes_eq x.0 op ≡ b → Contains (if b then x.1 ∷ forms_of op xs else forms_of op xs) keys) [
      | true ↦ λ e. here (λ more. form_contained op keys xs more) (contains_cons x xs (op, keys) c.0 c.1 c.2)
      | false ↦ λ e. there (λ more. form_contained op keys xs more) e (contains_cons x xs (op, keys) c.0 c.1 c.2)
    ] refl
  where
    here : (Contains xs (op, keys) → Contains (forms_of op xs) keys) → ((op, keys) ≡ x) ⊎ Contains xs (op, keys) → Contains (x.1 ∷ forms_of op xs) keys
    here rest (inl same) = first_contains x.1 (forms_of op xs) keys (ap (λ y. y.1) same)
    here rest (inr more) = cons_contains x.1 (forms_of op xs) keys (rest more)

    there : (Contains xs (op, keys) → Contains (forms_of op xs) keys) → bytes_eq x.0 op ≡ false → ((op, keys) ≡ x) ⊎ Contains xs (op, keys) → Contains (forms_of op xs) keys
    there rest e (inl same) = true_false (sym (same_key op) ∙ subst (λ (o : List ℕ). bytes_eq o op ≡ false) (sym (ap (λ y. y.0) same)) e)
    there rest e (inr more) = rest more

some_has_all : (fs : List (List (List ℕ))) (k : List ℕ) (ks : List (List ℕ)) → Contains fs ks → has ks k ≡ true → some_has fs k ≡ true
some_has_all [] k ks c e = absurd (let l = c.1 in omega (arith, l))
some_has_all (f ∷ fs) k ks c e = by (λ more. some_has_all fs k ks more e) (contains_cons f fs ks c.0 c.1 c.2)
  where
    by : (Contains fs ks → some_has fs k ≡ true) → (ks ≡ f) ⊎ Contains fs ks → some_has (f ∷ fs) k ≡ true
    by rest (inl same) = ap (λ (b : Bool). if b then true else some_has fs k) (subst (λ l. has l k ≡ true) same e)
    by rest (inr more) = later (has f k) (some_has fs k) (rest more)

-- ---- a field too many

foreign_found : (fs : List (List (List ℕ))) (ms : Members) (key : List ℕ) → foreign_in fs ms ≡ Some key →
    ((v : Data) × (get_member key ms ≡ Some v)) × (some_has ((codes "op" ∷ []) ∷ fs) key ≡ false)
foreign_found fs no_members key e = no_some key e
foreign_found fs (member k d ms) key e = elim (some_has ((codes "op" ∷ []) ∷ fs) k) as
    (λ b. some_has ((codes "op" ∷ []) ∷ fs) k ≡ b → (if b then foreign_in fs ms else Some k) ≡ Some key →
    ((v : Data) × (get_member key (member k d ms) ≡ Some v)) × (some_has ((codes "op" ∷ []) ∷ fs) key ≡ false)) [
      | true ↦ λ h f. let more = foreign_found fs ms key f in (there more.0, more.1)
      | false ↦ λ h f.
          let same : k ≡ key = some_same k key f in (
            (
              d,
              found_by key k d ms ∙ ap (λ (b : Bool). if b then Some d else get_member key ms)
                  (subst (λ (l : List ℕ). bytes_eq l k ≡ true) same (same_key k)),
            ),
            subst (λ (l : List ℕ). some_has ((codes "op" ∷ []) ∷ fs) l ≡ false) same h,
          )
    ] refl e
  where
    there : (v : Data) × (get_member key ms ≡ Some v) → (v : Data) × (get_member key (member k d ms) ≡ Some v)
    there x = elim (bytes_eq key k) as (λ b. bytes_eq key k ≡ b → (v : Data) × (get_member key (member k d ms) ≡ Some v)) [
      | true ↦ λ s. (d, found_by key k d ms ∙ ap (λ (b : Bool). if b then Some d else get_member key ms) s)
      | false ↦ λ s. (x.0, found_by key k d ms ∙ ap (λ (b : Bool). if b then Some d else get_member key ms) s ∙ x.1)
    ] refl

pub foreign_told : (ms : Members) (op key : List ℕ) (form : List (List ℕ)) → NamesOp ms op → Contains forms (op, form) →
    foreign_in (forms_of op forms) ms ≡ Some key → HasForeign (object ms) key
foreign_told ms op key form s c e =
    let x = foreign_found (forms_of op forms) ms key e in
    record {
      members = ms;
      op = op;
      form = form;
      value = x.0.0;
      object_is = refl;
      op_is = s;
      form_is = c;
      value_is = x.0.1;
      apart = λ same. true_false (sym (subst (λ (l : List ℕ). some_has ((codes "op" ∷ []) ∷ forms_of op forms) l ≡ true) (sym same) refl) ∙ x.1);
      foreign = λ keys d k. true_false (sym (later (has (codes "op" ∷ []) key) (some_has (forms_of op forms) key)
          (some_has_all (forms_of op forms) key keys (form_contained op keys forms d) (contains_has keys key k))) ∙ x.1);
    }

-- ---- a field too few

missing_found : (fs : List (List (List ℕ))) (ms : Members) (ks : List (List ℕ)) (key : List ℕ) → missing_in fs ms ks ≡ Some key →
    (is_there ms key ≡ false) × (list_all (λ f. has f key) fs ≡ true)
missing_found fs ms [] key e = no_some key e
missing_found fs ms (k ∷ ks) key e = elim (is_there ms k) as
    (λ b. is_there ms k ≡ b → (if b then missing_in fs ms ks else if list_all (λ f. has f k) fs then Some k else missing_in fs ms ks) ≡ Some key →
    (is_there ms key ≡ false) × (list_all (λ f. has f key) fs ≡ true)) [
      | true ↦ λ h f. missing_found fs ms ks key f
      | false ↦ λ h f. elim (list_all (λ f. has f k) fs) as
          (λ b. list_all (λ f. has f k) fs ≡ b → (if b then Some k else missing_in fs ms ks) ≡ Some key →
          (is_there ms key ≡ false) × (list_all (λ f. has f key) fs ≡ true)) [
            | true ↦ λ g i.
                let same : k ≡ key = some_same k key i in
                (subst (λ l. is_there ms l ≡ false) same h, subst (λ (l : List ℕ). list_all (λ f. has f l) fs ≡ true) same g)
            | false ↦ λ g i. missing_found fs ms ks key i
          ] refl f
    ] refl e

not_there : (o : Option Data) → is_some o ≡ false → o ≡ None
not_there None e = refl
not_there (Some d) e = true_false e

pub missing_told : (ms : Members) (op key : List ℕ) (form first : List (List ℕ)) → NamesOp ms op → Contains forms (op, form) →
    missing_in (forms_of op forms) ms first ≡ Some key → LacksField (object ms) key
missing_told ms op key form first s c e =
    let x = missing_found (forms_of op forms) ms first key e in
    record {
      members = ms;
      op = op;
      form = form;
      object_is = refl;
      op_is = s;
      form_is = c;
      missing = not_there (get_member key ms) x.0;
      wanted = λ keys d. has_contains keys key (All-contains (λ f. has f key ≡ true) (forms_of op forms) keys
          (AllPass-from_list_all (λ f. has f key) (forms_of op forms) x.1) (form_contained op keys forms d));
    }

-- ---- an op

pub form_there : (op : List ℕ) (f : List (List ℕ)) (fs : List (List (List ℕ))) (xs : List (List ℕ × List (List ℕ))) → forms_of op xs ≡ f ∷ fs →
    Contains xs (op, f)
form_there op f fs [] e = cc
form_there op f fs (x ∷ xs) e = elim (bytes_eq x.0 op) as
    (λ b. bytes_eq x.0 op ≡ b → (if b then x.1 ∷ forms_of op xs else forms_of op xs) ≡ f ∷ fs → Contains (x ∷ xs) (op, f)) [
      | true ↦ λ s g. first_contains x xs (op, f) (pair_is op f x (sym (equal_key x.0 op s)) (sym (head_same x.1 f (forms_of op xs) fs g)))
      | false ↦ λ s g. cons_contains x xs (op, f) (form_there op f fs xs g)
    ] refl e
  where
    head_same : (a b : List (List ℕ)) (cs ds : List (List (List ℕ))) → a ∷ cs ≡ b ∷ ds → a ≡ b
    head_same a b cs ds same = cc

    pair_is : (o : List ℕ) (l : List (List ℕ)) (y : List ℕ × List (List ℕ)) → o ≡ y.0 → l ≡ y.1 → ◌≡◌ {A = List ℕ × List (List ℕ)} (o, l) y
    pair_is o l (a, b) p q = cc

-- no form of an op is in a list that has none of it
pub formless_op : (op : List ℕ) (keys : List (List ℕ)) → forms_of op forms ≡ [] → Contains forms (op, keys) → ⊥
formless_op op keys e c =
    let d : Contains [] keys = subst (λ (fs : List (List (List ℕ))). Contains fs keys) e (form_contained op keys forms c) in
    let l = d.1 in omega (arith, l)

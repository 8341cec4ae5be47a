-- What is read is without a fault, and what is refused is refused with the least.
use Rattle.std.proofs.Common.{◌≡◌, ◌≤◌, ◌+◌, ◌*◌, ℕ, suc, Bool, true, false, List, [], ◌∷◌, codes, length, Option, Some, None, Result, Ok, Err, refl, sym, ap}
use Rattle.std.proofs.Common.{◌∙◌, subst, nat_eq, if◌then◌else◌, arith}
use Rattle.std.specs.Prelude.{Contains}
use Rattle.std.specs.List.{list_all}
use Rattle.serde_json.specs.Data.{Data, string, object, Members}
use Rattle.serde_json.specs.Find.{get_member}
use Rattle.wb_edit.specs.declared.refusal.Refusal.{Refusal}
use Rattle.wb_edit.specs.declared.refusal.Refusal.TheVariants.{BadRequest}
use Rattle.wb_requests.specs.Fields.{◌>>=◌, member_count, has_fields}
use Rattle.wb_requests.specs.declared.requests.request.Request.{Request}
use Rattle.wb_requests.specs.Wire.Faults.{Fault, bad_request, bad_literal, too_large, bad_mapping, code, refusal_of, fault_told, forms, HasKeys, NamesOp, IsWhole, Plain, Kind}
use Rattle.wb_requests.specs.Wire.Faults.{plain, kind_of, Fails, IsMiscounted, IsOwnFault, not_whole, of_member}
use Rattle.wb_requests.proofs.OnTheWire.Values.{no_ok, some_same}
use Rattle.wb_requests.proofs.OnTheWire.Spellings.{count_read}
use Rattle.wb_requests.proofs.OnTheWire.Steps.{one_of, two_of, three_of, five_of}
use Rattle.wb_requests.proofs.OnTheWire.Keys.{has, apart, IsThere, AllKeys, keys_made, IsForm, passes, lacks, miscounted, uncounted_op, FailsAt, all_faults}
use Rattle.wb_requests.proofs.OnTheWire.Failing.{err_same, no_err, IsReader}

-- ---- codes

-- a refusal tells of the fault that it is for
pub told_back : (f : Fault) → fault_told (refusal_of f) ≡ f
told_back bad_request = refl
told_back bad_literal = refl
told_back too_large = refl
told_back bad_mapping = refl

-- one refusal, one code
pub code_same : (f g : Fault) → refusal_of f ≡ refusal_of g → code f ≤ code g
code_same f g e = let same = ap code (sym (told_back f) ∙ ap fault_told e ∙ told_back g) in omega (arith, same)

by_code : ℕ → Refusal
by_code n = if nat_eq n 1 then refusal_of bad_request else if nat_eq n 2 then refusal_of bad_literal else if nat_eq n 9 then refusal_of
    too_large else refusal_of bad_mapping

refusal_by_code : (f : Fault) → by_code (code f) ≡ refusal_of f
unfolding by_code
refusal_by_code bad_request = refl
refusal_by_code bad_literal = refl
refusal_by_code too_large = refl
refusal_by_code bad_mapping = refl

-- one code, one refusal
pub refusal_same : (f g : Fault) → code f ≤ code g → code g ≤ code f → refusal_of f ≡ refusal_of g
refusal_same f g l m = sym (refusal_by_code f) ∙ ap by_code (omega (arith, l, m)) ∙ refusal_by_code g

pub least_code : (f : Fault) → 1 ≤ code f
least_code bad_request = omega arith
least_code bad_literal = omega arith
least_code too_large = omega arith
least_code bad_mapping = omega arith

-- ---- what is to be shown

-- what is read is without any of these faults, and what is refused is refused with the least of them
abbrev pub IsLeastOf : (Fault → Type 0) → Fault → Type 0
IsLeastOf P f = P f × ((g : Fault) → P g → code f ≤ code g)

abbrev pub RefusedBy : (Fault → Type 0) → Refusal → Type 0
RefusedBy P why = (f : Fault) × (why ≡ refusal_of f) × IsLeastOf P f

abbrev pub JudgedBy : {X : Type 0} → (Fault → Type 0) → Result X Refusal → Type 0
JudgedBy P (Ok x) = (f : Fault) → P f → ⊥
JudgedBy P (Err why) = RefusedBy P why

-- the same of what is wrong with an object itself
abbrev pub IsLeastOwn : Data → Fault → Type 0
IsLeastOwn d f = IsLeastOf (IsOwnFault d) f

abbrev pub NoFault : Data → Type 0
NoFault d = (f : Fault) → IsOwnFault d f → ⊥

abbrev pub Refused : Data → Refusal → Type 0
Refused d why = RefusedBy (IsOwnFault d) why

abbrev pub Judges : {X : Type 0} → Data → Result X Refusal → Type 0
Judges d r = JudgedBy (IsOwnFault d) r

abbrev pub Judged : {X : Type 0} → Members → Result X Refusal → Type 0
Judged ms r = Judges (object ms) r

-- what a reader of an op answers
abbrev pub IsJudged : List ℕ → (Data → Result Request Refusal) → Type 0
IsJudged op read = (ms : Members) → NamesOp ms op → Judged ms (read (object ms))

pub first : (d : Data) (why : Refusal) → why ≡ BadRequest → IsOwnFault d bad_request → Refused d why
first d why e f = (bad_request, e, (f, λ g x. least_code g))

-- ---- readers of so many members

module _ {X : Type 0} (J : Result X Refusal → Type 0) where
  pub bind_judged : {A : Type 0} (r : Result A Refusal) (K : A → Result X Refusal) → ((why : Refusal) → r ≡ Err why → J (Err why)) →
      ((a : A) → r ≡ Ok a → J (K a)) → J (r >>= K)
  bind_judged (Ok a) K bad good = good a refl
  bind_judged (Err why) K bad good = bad why refl

  pub one_judged : {A : Type 0} (u : Result (Unit {0}) Refusal) (f : Result A Refusal) (K : A → Result X Refusal) →
      ((why : Refusal) → u ≡ Err why → J (Err why)) → ((why : Refusal) → f ≡ Err why → J (Err why))
      → ((a : A) → u ≡ Ok tt → f ≡ Ok a → J (K a)) → J (one_of u f K)
  one_judged (Ok x) (Ok a) K hu hf good = good a refl refl
  one_judged (Ok x) (Err why) K hu hf good = hf why refl
  one_judged (Err why) f K hu hf good = hu why refl

  pub two_judged : {A B : Type 0} (u : Result (Unit {0}) Refusal) (f : Result A Refusal) (g : Result B Refusal) (K : A → B → Result X Refusal)
      → ((why : Refusal) → u ≡ Err why → J (Err why)) → ((why : Refusal) → f ≡ Err why → J (Err why)) → ((why : Refusal) → g ≡ Err why → J (Err why))
      → ((a : A) (b : B) → u ≡ Ok tt → f ≡ Ok a → g ≡ Ok b → J (K a b)) → J (two_of u f g K)
  two_judged u (Ok a) g K hu hf hg good = one_judged u g (K a) hu hg (λ b p q. good a b p refl q)
  two_judged (Ok x) (Err why) g K hu hf hg good = hf why refl
  two_judged (Err w) (Err why) g K hu hf hg good = hu w refl

  pub three_judged : {A B C : Type 0} (u : Result (Unit {0}) Refusal) (f : Result A Refusal) (g : Result B Refusal) (h : Result C Refusal)
      (K : A → B → C → Result X Refusal)
      → ((why : Refusal) → u ≡ Err why → J (Err why)) → ((why : Refusal) → f ≡ Err why → J (Err why)) → ((why : Refusal) → g ≡ Err why → J (Err why)) →
      ((why : Refusal) → h ≡ Err why → J (Err why))
      → ((a : A) (b : B) (c : C) → u ≡ Ok tt → f ≡ Ok a → g ≡ Ok b → h ≡ Ok c → J (K a b c)) → J (three_of u f g h K)
  three_judged u (Ok a) g h K hu hf hg hh good = two_judged u g h (K a) hu hg hh (λ b c p q r. good a b c p refl q r)
  three_judged (Ok x) (Err why) g h K hu hf hg hh good = hf why refl
  three_judged (Err w) (Err why) g h K hu hf hg hh good = hu w refl

  pub five_judged : {A B C D E : Type 0} (u : Result (Unit {0}) Refusal) (f : Result A Refusal) (g : Result B Refusal) (h : Result C Refusal)
      (i : Result D Refusal) (j : Result E Refusal) (K : A → B → C → D → E → Result X Refusal)
      → ((why : Refusal) → u ≡ Err why → J (Err why)) → ((why : Refusal) → f ≡ Err why → J (Err why)) → ((why : Refusal) → g ≡ Err why → J (Err why)) →
      ((why : Refusal) → h ≡ Err why → J (Err why))
      → ((why : Refusal) → i ≡ Err why → J (Err why)) → ((why : Refusal) → j ≡ Err why → J (Err why))
      → ((a : A) (b : B) (c : C) (d : D) (e : E) → u ≡ Ok tt → f ≡ Ok a → g ≡ Ok b → h ≡ Ok c → i ≡ Ok d → j ≡ Ok e → J (K a b c d e)) →
      J (five_of u f g h i j K)
  five_judged u (Ok a) (Ok b) h i j K hu hf hg hh hi hj good = three_judged u h i j (K a b) hu hh hi hj (λ c d e p q r s. good a b c d e p refl refl q r s)
  five_judged (Ok x) (Ok a) (Err why) h i j K hu hf hg hh hi hj good = hg why refl
  five_judged (Err w) (Ok a) (Err why) h i j K hu hf hg hh hi hj good = hu w refl
  five_judged (Ok x) (Err why) g h i j K hu hf hg hh hi hj good = hf why refl
  five_judged (Err w) (Err why) g h i j K hu hf hg hh hi hj good = hu w refl

-- ---- one member

-- the member of a key that is of a kind and has a value
pub fails_there : (ms : Members) (o k : List ℕ) (kind : Kind) (v : Data) (f : Fault) → kind_of o k ≡ Some kind → get_member k ms ≡ Some v → FailsAt ms o k f →
    Fails kind v f
fails_there ms o k kind v f kd g x =
    subst (λ kind. Fails kind v f) (sym (some_same kind x.0 (sym kd ∙ x.2))) (subst (λ v. Fails x.0 v f) (sym (some_same v x.1 (sym g ∙ x.3))) x.4)

pub member_fault : (ms : Members) (o k : List ℕ) (kind : Kind) (v : Data) (f : Fault) → NamesOp ms o → kind_of o k ≡ Some kind → get_member k ms ≡ Some v →
    Fails kind v f → IsOwnFault (object ms) f
member_fault ms o k kind v f s kd g x = of_member (record {
  members = ms;
  op = o;
  key = k;
  kind = kind;
  value = v;
  is_object = refl;
  names_op = s;
  is_kind =
      kd;
  is_value = g;
  fails = x;
})

-- a member that is there, and nothing is wrong with it
abbrev pub Fine : Members → List ℕ → List ℕ → Type 0
Fine ms o k = IsThere ms k × ((f : Fault) → FailsAt ms o k f → ⊥)

fine_at : (ms : Members) (o k : List ℕ) {kind : Kind} {A : Type 0} {read : Option Data → Result A Refusal} → IsReader kind read → kind_of o k ≡ Some kind →
    (a : A) (v : Option Data) → get_member k ms ≡ v → read v ≡ Ok a → Fine ms o k
fine_at ms o k r kd a None g e = no_ok BadRequest a (sym r.none ∙ e)
fine_at ms o k {kind} r kd a (Some v) g e = ((v, g), λ f x. no_err (sym e ∙ r.failing v f (fails_there ms o k kind v f kd g x)))

pub fine : (ms : Members) (o k : List ℕ) {kind : Kind} {A : Type 0} {read : Option Data → Result A Refusal} → IsReader kind read → kind_of o k ≡ Some kind →
    (a : A) → read (get_member k ms) ≡ Ok a → Fine ms o k
fine ms o k r kd a e = fine_at ms o k r kd a (get_member k ms) refl e

plain_fault : (p : Plain) (v : Data) (f : Fault) → Fails (plain p) v f → Fails (plain p) v bad_request
plain_fault p v bad_request h = h
plain_fault p v bad_literal h = absurd h
plain_fault p v too_large h = absurd h
plain_fault p v bad_mapping h = absurd h

plain_refusal : (p : Plain) (v : Data) (f : Fault) → Fails (plain p) v f → refusal_of f ≡ BadRequest
plain_refusal p v bad_request h = refl
plain_refusal p v bad_literal h = absurd h
plain_refusal p v too_large h = absurd h
plain_refusal p v bad_mapping h = absurd h

bad_at : (ms : Members) (o k : List ℕ) → NamesOp ms o → {p : Plain} {A : Type 0} {read : Option Data → Result A Refusal} → IsReader (plain p) read →
    kind_of o k ≡ Some (plain p)
    → (get_member k ms ≡ None → IsWhole (object ms) → ⊥) → (why : Refusal) (v : Option Data) → get_member k ms ≡ v → read v ≡ Err why → Refused (object ms) why
bad_at ms o k s r kd lacking why None g e = first (object ms) why (err_same why BadRequest (sym e ∙ r.none)) (not_whole refl (lacking g))
bad_at ms o k s {p} r kd lacking why (Some v) g e =
    let x = r.bad v why e in
    first (object ms) why (x.1 ∙ plain_refusal p v x.0 x.2) (member_fault ms o k (plain p) v bad_request s kd g (plain_fault p v x.0 x.2))

pub field_bad_by : (ms : Members) (o k : List ℕ) → NamesOp ms o → {p : Plain} {A : Type 0} {read : Option Data → Result A Refusal} → IsReader (plain p) read →
    kind_of o k ≡ Some (plain p)
    → (get_member k ms ≡ None → IsWhole (object ms) → ⊥) → (why : Refusal) → read (get_member k ms) ≡ Err why → Refused (object ms) why
field_bad_by ms o k s r kd lacking why e = bad_at ms o k s r kd lacking why (get_member k ms) refl e

-- a member that each form of the op has
pub field_bad : (ms : Members) (o k : List ℕ) → NamesOp ms o → {p : Plain} {A : Type 0} {read : Option Data → Result A Refusal} → IsReader (plain p) read →
    kind_of o k ≡ Some (plain p)
    → list_all (passes o (has k)) forms ≡ true → (why : Refusal) → read (get_member k ms) ≡ Err why → Refused (object ms) why
field_bad ms o k s r kd a why e = field_bad_by ms o k s r kd (lacks ms o k s a) why e

-- ---- all members

count_is : (b : Bool) (why : Refusal) → ◌≡◌ {A = Result (Unit {0}) Refusal} (if b then Ok tt else Err BadRequest) (Err why) → why ≡ BadRequest
count_is true why e = no_err e
count_is false why e = err_same why BadRequest (sym e)

pub uncounted : (ms : Members) (n : ℕ) (why : Refusal) → has_fields n (object ms) ≡ Err why → (why ≡ BadRequest) × (member_count ms ≡ n → ⊥)
uncounted ms n why e = (count_is (nat_eq (member_count ms) n) why e, λ q. no_err (sym (count_read ms n q) ∙ e))

pub count_bad : (ms : Members) (o : List ℕ) (n : ℕ) → NamesOp ms o → list_all (passes o (λ ks. nat_eq (length ks) n)) forms ≡ true → (why : Refusal) →
    has_fields (suc n) (object ms) ≡ Err why → Refused (object ms) why
count_bad ms o n s a why e = let x = uncounted ms (suc n) why e in first (object ms) why x.0 (not_whole refl (miscounted ms o n s a x.1))

each_key : (P Q : List ℕ → Type 0) → ((k : List ℕ) → P k → Q k) → (ks : List (List ℕ)) → AllKeys ks P → AllKeys ks Q
each_key P Q h [] a = tt
each_key P Q h (k ∷ ks) a = (h k a.0, each_key P Q h ks a.1)

pub whole_fine : (ms : Members) (o : List ℕ) (ks : List (List ℕ)) → NamesOp ms o → apart (codes "op" ∷ ks) ≡ true → member_count ms ≡ suc (length ks) →
    AllKeys ks (IsThere ms) → HasKeys ms (codes "op" ∷ ks)
whole_fine ms o ks s a n t = keys_made (codes "op" ∷ ks) ms a n ((string o, s), t)

-- as many numbers as there have to be, in an op that counts them too
pub all_fine_by : (ms : Members) (o : List ℕ) (ks : List (List ℕ)) → NamesOp ms o → Contains forms (o, ks) → apart (codes "op" ∷ ks) ≡ true →
    member_count ms ≡ suc (length ks) → AllKeys ks (Fine ms o) → (IsMiscounted (object ms) → ⊥) → NoFault (object ms)
all_fine_by ms o ks s c a n t count =
    all_faults ms o ks (λ f. ⊥) s c (whole_fine ms o ks s a n (each_key (Fine ms o) (IsThere ms) (λ k x. x.0) ks t))
    (each_key (Fine ms o) (λ k. (f : Fault) → FailsAt ms o k f → ⊥) (λ k x. x.1) ks t) count

pub all_fine : (ms : Members) (o : List ℕ) (ks : List (List ℕ)) → NamesOp ms o → IsForm (o, ks) → apart (codes "op" ∷ ks) ≡ true →
    member_count ms ≡ suc (length ks) → AllKeys ks (Fine ms o) → NoFault (object ms)
all_fine ms o ks s c a n t = all_fine_by ms o ks s c.0 a n t (uncounted_op ms o s c.1)

-- no fault of a key's value has a lower code than f
abbrev pub IsAbove : Members → List ℕ → Fault → List ℕ → Type 0
IsAbove ms o f k = (g : Fault) → FailsAt ms o k g → code f ≤ code g

pub fine_above : (ms : Members) (o k : List ℕ) (f : Fault) → Fine ms o k → IsAbove ms o f k
fine_above ms o k f x g y = absurd (x.1 g y)

least_by : (ms : Members) (o : List ℕ) (ks : List (List ℕ)) (f : Fault) → NamesOp ms o → Contains forms (o, ks) → HasKeys ms (codes "op" ∷ ks) →
    IsOwnFault (object ms) f → AllKeys ks (IsAbove ms o f) → (IsMiscounted (object ms) → ⊥) → IsLeastOwn (object ms) f
least_by ms o ks f s c h x all count = (x, all_faults ms o ks (λ g. code f ≤ code g) s c h all (λ m. absurd (count m)))

pub least_of : (ms : Members) (o : List ℕ) (ks : List (List ℕ)) (f : Fault) → NamesOp ms o → IsForm (o, ks) → HasKeys ms (codes "op" ∷ ks) →
    IsOwnFault (object ms) f → AllKeys ks (IsAbove ms o f) → IsLeastOwn (object ms) f
least_of ms o ks f s c h x all = least_by ms o ks f s c.0 h x all (uncounted_op ms o s c.1)

-- the value of one member is refused, and no other has a lower code
pub value_bad_by : (ms : Members) (o : List ℕ) (ks : List (List ℕ)) → NamesOp ms o → Contains forms (o, ks) → HasKeys ms (codes "op" ∷ ks) →
    (k : List ℕ) {kind : Kind} {A : Type 0} {read : Option Data → Result A Refusal}
    → IsReader kind read → kind_of o k ≡ Some kind → (v : Data) → get_member k ms ≡ Some v → (why : Refusal) → read (Some v) ≡ Err why
    → ((f : Fault) → IsAbove ms o f k → AllKeys ks (IsAbove ms o f)) → (IsMiscounted (object ms) → ⊥) → Refused (object ms) why
value_bad_by ms o ks s c h k {kind} r kd v g why e all count =
    let x = r.bad v why e in
    let same : IsAbove ms o x.0 k = λ f y. code_same x.0 f (err_same (refusal_of x.0) (refusal_of f)
    (sym (e ∙ ap Err x.1) ∙ r.failing v f (fails_there ms o k kind v f kd g y))) in
    (x.0, x.1, least_by ms o ks x.0 s c h (member_fault ms o k kind v x.0 s kd g x.2) (all x.0 same) count)

pub value_bad : (ms : Members) (o : List ℕ) (ks : List (List ℕ)) → NamesOp ms o → IsForm (o, ks) → HasKeys ms (codes "op" ∷ ks) →
    (k : List ℕ) {kind : Kind} {A : Type 0} {read : Option Data → Result A Refusal}
    → IsReader kind read → kind_of o k ≡ Some kind → (v : Data) → get_member k ms ≡ Some v → (why : Refusal) → read (Some v) ≡ Err why
    → ((f : Fault) → IsAbove ms o f k → AllKeys ks (IsAbove ms o f)) → Refused (object ms) why
value_bad ms o ks s c h k r kd v g why e all = value_bad_by ms o ks s c.0 h k r kd v g why e all (uncounted_op ms o s c.1)

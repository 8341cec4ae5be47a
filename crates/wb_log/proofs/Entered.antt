-- What has entered the indexes, as edits come, go and enter.
use Rattle.std.proofs.Common.{if◌then◌else◌, ◌≡◌, ℕ, zero, suc, ◌+◌, ◌-◌, ◌<◌, ◌≤◌, ◌==◌, nat_lt, Bool, true, false, List, [], ◌∷◌, ◌++◌, length, drop, refl}
use Rattle.std.proofs.Common.{sym, ap, ◌∙◌, subst, Option, Some, None, is_some, Result, Ok, Err, IfOk, OnOk, OnErr, slice_get, slice_set, arith, add-one}
use Rattle.std.proofs.lemmas.Bool.Decides.{nat_tests}
use Rattle.std.proofs.lemmas.List.{length-append}
use Rattle.selective_undo.specs.Log.{Footprint, first_from}
use Rattle.selective_undo.proofs.Log.{set-map, append-map}
use Rattle.wb_cells.specs.Cells.{Contents}
use Rattle.wb_cells.specs.Schema.{workbook}
use Rattle.wb_footprints.specs.declared.foot_index.FootIndex.{FootIndex}
use Rattle.wb_footprints.specs.Footprints.{Footprints, IsIndexOf, with_footprint}
use Rattle.wb_footprints.specs.Relation.{IsLeastAfter, IsGreatest}
use Rattle.wb_log.specs.declared.entry.LoggedEdit as kept
use Rattle.wb_log.specs.declared.index.EditIndex.{EditIndex}
use Rattle.wb_edit.specs.declared.refusal.Refusal.{Refusal}
use Rattle.wb_log.specs.Kept.{kept_in, kept_all, footprint_at_number, by_number, IsLatest, TakenBack}
use Rattle.wb_log.specs.Indexed.{up_to, Indexes, IsIndexed}
use Rattle.wb_log.proofs.Entries.{set_same}
use Rattle.wb_log.proofs.Firsts.{first_after}
use Rattle.wb_log.proofs.Lists.{index_like, replaced}

-- ---- an entry by its number

there : (es : List kept.LoggedEdit) (k : ℕ) (x : kept.LoggedEdit) → slice_get es k ≡ Some x → footprint_at_number (kept_all es) k ≡ kept_in x
there [] k x is = cc
there (y ∷ es) zero x is = let h : y ≡ x = cc in ap kept_in h
there (y ∷ es) (suc k) x is = there es k x is

pub kept_here : (es : List kept.LoggedEdit) (k : ℕ) (x : kept.LoggedEdit) → slice_get es k ≡ Some x → by_number es (k + 1) ≡ kept_in x
kept_here es k x is = rw add-one (there es k x is)

pub no_kept : (es : List kept.LoggedEdit) (k : ℕ) (x : kept.LoggedEdit) → slice_get es k ≡ Some x → x.kept ≡ None → by_number es (k + 1) ≡ None
no_kept es k x is off = kept_here es k x is ∙ ap (λ o. kept_in (record { edit = x.edit; kept = o })) off

kept_length : (es : List kept.LoggedEdit) → length (kept_all es) ≡ length es
kept_length [] = refl
kept_length (x ∷ es) = ap (λ (n : ℕ). suc n) (kept_length es)

past : {F : Type 0} (xs : List (Option F)) (k : ℕ) → length xs ≤ k → footprint_at_number xs k ≡ None
past [] k h = refl
past (x ∷ xs) zero h = absurd (omega (arith, h))
past (x ∷ xs) (suc k) h = past xs k (omega (arith, h))

pub none_past : (es : List kept.LoggedEdit) (k : ℕ) → length es < k → by_number es k ≡ None
none_past es zero h = absurd (omega (arith, h))
none_past es (suc k) h = past (kept_all es) k (omega (arith, h, kept_length es))

-- ---- the footprints up to a number

above : (n k : ℕ) → nat_lt n k ≡ true → n < k
above n k e = grind (arith, nat_tests)

not_above : (n k : ℕ) → nat_lt n k ≡ false → k ≤ n
not_above n k e = grind (arith, nat_tests)

module _ {F : Type 0} where
  shown : (b : Bool) (y : Option F) → (b ≡ true → y ≡ None) → (if b then None else y) ≡ y
  shown true y h = sym (h refl)
  shown false y h = refl

all_up_to : (n : ℕ) (f : Footprints) → ((m : ℕ) → n < m → f m ≡ None) → (m : ℕ) → up_to n f m ≡ f m
all_up_to n f none m = shown (nat_lt n m) (f m) (λ e. none m (above n m e))

pub not_0 : (k : ℕ) (f : Footprints) (o : Option (Footprint workbook)) → f 0 ≡ None → with_footprint f (k + 1) o 0 ≡ None
not_0 k f o none = let apart : (k + 1 == 0) ≡ false = grind (arith, nat_tests) in rw apart none

-- up to 0 there is none
pub none_entered : (f : Footprints) (k : ℕ) → f 0 ≡ None → false ≡ is_some (up_to 0 f k)
none_entered f zero none = sym (ap is_some none)
none_entered f (suc k) none = let past : nat_lt 0 (suc k) ≡ true = grind (arith, nat_tests) in rw past refl

-- the next number has no footprint yet
pub none_next : (e : ℕ) (f : Footprints) → up_to e f (e + 1) ≡ None
none_next e f = let past : nat_lt e (e + 1) ≡ true = grind (arith, nat_tests) in rw past refl

-- and where it has come, those up to it are there
pub next_entered : (e : ℕ) (f : Footprints) (o : Option (Footprint workbook)) (n : ℕ) → f (e + 1) ≡ o → with_footprint (up_to e f) (e + 1) o n ≡ up_to (e + 1) f n
next_entered e f o n is =
    either (e + 1 == n) (nat_lt e n) (nat_lt (e + 1) n) (f n)
    (λ same. let at : e + 1 ≡ n = grind (arith, nat_tests) in (
      grind (arith, nat_tests),
      sym is ∙ ap f at,
    ))
    (λ apart. same_test e n apart)
  where
    either : (a b c : Bool) (y : Option (Footprint workbook)) → (a ≡ true → (c ≡ false) × (o ≡ y)) → (a ≡ false → b ≡ c) →
        (if a then o else (if b then None else y)) ≡ (if c then None else y)
    either true b true y h k = let bad = (h refl).0 in cc
    either true b false y h k = (h refl).1
    either false b c y h k = ap (λ d. if d then None else y) (k refl)

    same_test : (e n : ℕ) → (e + 1 == n) ≡ false → nat_lt e n ≡ nat_lt (e + 1) n
    same_test e n apart = grind (arith, nat_tests)

-- none that comes at a number without one changes nothing
pub none_comes : (f : Footprints) (k : ℕ) (o : Option (Footprint workbook)) (n : ℕ) → o ≡ None → f k ≡ None → f n ≡ with_footprint f k o n
none_comes f k o n off none =
    elim (k == n) as (λ b. (k == n) ≡ b → f n ≡ (if b then o else f n)) [
      | true ↦ λ e. let same : k ≡ n = grind (arith, nat_tests) in subst (λ (m : ℕ). f m ≡ o) same (none ∙ sym off)
      | false ↦ λ e. refl
    ] refl

-- ---- all have entered

pub index_whole : (idx : FootIndex) (es : List kept.LoggedEdit) (n : ℕ) → length es ≤ n → IsIndexOf idx (up_to n (by_number es)) → IsIndexOf idx (by_number es)
index_whole idx es n all h = index_like idx (up_to n (by_number es)) (by_number es)
    (all_up_to n (by_number es) (λ m high. none_past es m (omega (arith, all, high)))) h

pub first_is : (es : List kept.LoggedEdit) (k : ℕ) (p : Option (Footprint workbook) → Bool) → p None ≡ false → (r : Option ℕ) →
    IsLeastAfter (λ n. p (by_number es n)) (k + 1) r → r ≡ first_from p (k + 2) (drop (k + 1) (kept_all es))
first_is es k p none r h =
    let e : suc (k + 1) ≡ k + 2 = omega arith in
    subst (λ (m : ℕ). r ≡ first_from p m (drop (k + 1) (kept_all es))) e (sym (first_after p none (None ∷ kept_all es) (k + 1) r h))

-- ---- the latest in force

got : {F : Type 0} (xs : List (Option F)) (q : ℕ) (g : F) → slice_get xs q ≡ Some (Some g) → is_some (footprint_at_number xs q) ≡ true
got [] q g e = cc
got (x ∷ xs) zero g e = let h : x ≡ Some g = cc in ap is_some h
got (x ∷ xs) (suc q) g e = got xs q g e

some_at : {F : Type 0} (xs : List (Option F)) (p : ℕ) → is_some (footprint_at_number xs p) ≡ true → (f : F) × (slice_get xs p ≡ Some (Some f))
some_at [] p e = cc
some_at (Some f ∷ xs) zero e = (f, refl)
some_at (None ∷ xs) zero e = cc
some_at (x ∷ xs) (suc p) e = some_at xs p e

pub latest_none : (es : List kept.LoggedEdit) → IsGreatest (λ n. is_some (by_number es n)) None → IsLatest (kept_all es) None
latest_none es h = λ q g e. let on = got (kept_all es) q g e in let off = h (suc q) in cc

pub latest_positive : (es : List kept.LoggedEdit) (n : ℕ) → IsGreatest (λ n. is_some (by_number es n)) (Some n) → 1 ≤ n
latest_positive es zero h = let bad = h.0 in cc
latest_positive es (suc n) h = omega arith

pub latest_some : (es : List kept.LoggedEdit) (n : ℕ) → IsGreatest (λ n. is_some (by_number es n)) (Some n) → IsLatest (kept_all es) (Some (n - 1))
latest_some es zero h = let bad = h.0 in cc
latest_some es (suc p) h =
    let e : p ≡ suc p - 1 = omega arith in
    let found = some_at (kept_all es) p h.0 in
    subst (λ (m : ℕ). IsLatest (kept_all es) (Some m)) e (
      found.0,
      found.1,
      λ q g at. let low : suc q ≤ suc p = h.1 (suc q) (got (kept_all es) q g at) in
          omega (arith, low),
    )

greatest_like : (p q : ℕ → Bool) → ((m : ℕ) → p m ≡ q m) → (r : Option ℕ) → IsGreatest p r → IsGreatest q r
greatest_like p q e None h = λ n. sym (e n) ∙ h n
greatest_like p q e (Some j) h = (sym (e j) ∙ h.0, λ n is. h.1 n (e n ∙ is))

pub greatest_whole : (p : ℕ → Bool) (es : List kept.LoggedEdit) (n : ℕ) (r : Option ℕ) → length es ≤ n → ((m : ℕ) → p m ≡ is_some (up_to n (by_number es) m)) →
    IsGreatest p r → IsGreatest (λ m. is_some (by_number es m)) r
greatest_whole p es n r all is h = greatest_like p (λ m. is_some (by_number es m))
    (λ m. is m ∙ ap is_some (all_up_to n (by_number es) (λ m high. none_past es m (omega (arith, all, high))) m)) r h

-- ---- the entries change

like : (x : EditIndex) (c d : ℕ) (f g : Footprints) → c ≤ d → ((m : ℕ) → m ≤ c → f m ≡ g m) → Indexes x c f → Indexes x d g
like x c d f g more e h =
    record {
      by_footprint = record {
        from_1 = sym (e 0 (omega arith)) ∙ h.by_footprint.from_1;
        within = omega (arith, h.by_footprint.within, more);
        index = index_like x.by_footprint.index (up_to x.by_footprint.entered f) (up_to x.by_footprint.entered g)
            (same x.by_footprint.entered h.by_footprint.within) h.by_footprint.index;
      };
      in_force = record {
        from_1 = sym (e 0 (omega arith)) ∙ h.in_force.from_1;
        within = omega (arith, h.in_force.within, more);
        numbers = λ k. h.in_force.numbers k ∙ ap is_some (same x.in_force.entered h.in_force.within k);
        bound = record {
          told = omega (arith, h.in_force.bound.told, more);
          bound = h.in_force.bound.bound;
          above = λ k high low. sym (e k (omega (arith, low, h.in_force.bound.told))) ∙ h.in_force.bound.above k high low;
        };
      };
    }
  where
    either : (b : Bool) (y z : Option (Footprint workbook)) → (b ≡ false → y ≡ z) → (if b then None else y) ≡ (if b then None else z)
    either true y z h = refl
    either false y z h = h refl

    same : (n : ℕ) → n ≤ c → (m : ℕ) → up_to n f m ≡ up_to n g m
    same n low m = either (nat_lt n m) (f m) (g m) (λ b. e m (omega (arith, low, not_above n m b)))

below : {F : Type 0} (xs ys : List (Option F)) (m : ℕ) → m < length xs → footprint_at_number xs m ≡ footprint_at_number (xs ++ ys) m
below [] ys m h = absurd (omega (arith, h))
below (x ∷ xs) ys zero h = refl
below (x ∷ xs) ys (suc m) h = below xs ys m (omega (arith, h))

pub more_indexed : (x : EditIndex) (es : List kept.LoggedEdit) (y : kept.LoggedEdit) → IsIndexed x es → IsIndexed x (es ++ y ∷ [])
more_indexed x es y h =
    like x (length es) (length (es ++ y ∷ [])) (by_number es) (by_number (es ++ y ∷ [])) (omega (arith, length-append es (y ∷ [])))
    (λ m low. below (None ∷ kept_all es) (kept_in y ∷ []) m (omega (arith, low, kept_length es)) ∙
    ap (λ os. footprint_at_number (None ∷ os) m) (sym (append-map kept_in es (y ∷ [])))) h

pub set_indexed : (x : EditIndex) (es : List kept.LoggedEdit) (k : ℕ) (y : kept.LoggedEdit) → k < length es →
    Indexes x (length es) (with_footprint (by_number es) (k + 1) (kept_in y)) → IsIndexed x (slice_set es k y)
set_indexed x es k y low h =
    let fits : suc k < suc (length (kept_all es)) = omega (arith, low, kept_length es) in
    let all : slice_set (kept_all es) k (kept_in y) ≡ kept_all (slice_set es k y) = sym (set-map kept_in es k y) in
    like x (length es) (length (slice_set es k y)) (with_footprint (by_number es) (k + 1) (kept_in y)) (by_number (slice_set es k y))
    (omega (arith, same_length es k y))
    (λ m low. ap (λ (j : ℕ). with_footprint (by_number es) j (kept_in y) m) (add-one k) ∙ replaced (None ∷ kept_all es) (suc k) (kept_in y) m fits ∙
    ap (λ os. footprint_at_number (None ∷ os) m) all) h
  where
    same_length : (xs : List kept.LoggedEdit) (j : ℕ) (z : kept.LoggedEdit) → length (slice_set xs j z) ≡ length xs
    same_length [] j z = refl
    same_length (u ∷ xs) zero z = refl
    same_length (u ∷ xs) (suc j) z = ap (λ (n : ℕ). suc n) (same_length xs j z)

pub undone_indexed : (es : List kept.LoggedEdit) (k : ℕ) (x : kept.LoggedEdit) → slice_get es k ≡ Some x → k < length es →
    (old new : EditIndex) (r : Result ℕ Refusal) (y : kept.LoggedEdit) (b d : Contents) → IsIndexed old es → IfOk r (λ n. TakenBack x n y b d)
    → OnOk r ((count : ℕ) (footprints : Footprints) → Indexes old count footprints → footprints (k + 1) ≡ kept_in x →
    Indexes new count (with_footprint footprints (k + 1) None)) → OnErr r (y ≡ x) → OnErr r (new ≡ old) → IsIndexed new (slice_set es k y)
undone_indexed es k x is low old new (Ok n) y b d h ok taken entry same =
    let (q, has, count, gone, cells, writes) = ok in
    let none : None ≡ kept_in y = sym (ap kept_in gone) in
    set_indexed new es k y low (subst (λ o. Indexes new (length es) (with_footprint (by_number es) (k + 1) o)) none
    (taken (length es) (by_number es) h (kept_here es k x is)))
undone_indexed es k x is low old new (Err why) y b d h ok taken entry same =
    subst (λ fs. IsIndexed new fs) (sym (ap (slice_set es k) entry ∙ set_same es k x is es k x is)) (subst (λ i. IsIndexed i es) (sym same) h)

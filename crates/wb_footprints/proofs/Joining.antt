-- Numbers that come into a set: one after another, and pass by pass.
use Rattle.std.proofs.Common.{◌≡◌, ℕ, ◌+◌, ◌-◌, ◌<◌, ◌≤◌, ◌==◌, Bool, true, false, true≢false, ◌||◌, if◌then◌else◌, ◌⊎◌, inl, inr, Option, Some, None}
use Rattle.std.proofs.Common.{List, [], ◌∷◌, ◌++◌, length, take, get_or, refl, sym, ap, subst, ◌∙◌, arith}
use Rattle.std.specs.Cmp.{IsTotalOrder}
use Rattle.std.specs.FinMap.{IsAntisymmetric}
use Rattle.std.specs.List.{list_any}
use Rattle.std.specs.List.Sorted.{IsStrictlySortedBy}
use Rattle.std.specs.declared.cmp.Ordering.{Ordering}
use Rattle.std.specs.declared.cmp.Ordering.TheVariants.{Less}
use Rattle.std.proofs.lemmas.Bool.{cases_lt}
use Rattle.std.proofs.lemmas.List.{take_all, get_or_default}
use Rattle.std.proofs.lemmas.List.Folds.{list_any_more, list_any-append}
use Rattle.selective_undo.specs.declared.Change.{Change}
use Rattle.wb_cells.specs.declared.cells.cell.Cell.{Cell}
use Rattle.wb_cells.specs.declared.cells.value.Value.{Value}
use Rattle.wb_cells.specs.declared.changes.run.ChangeRun.{ChangeRun}
use Rattle.wb_cells.specs.Runs.{changes_in, all_changes}
use Rattle.wb_footprints.specs.Numbers.{Numbers, numbered}
use Rattle.wb_footprints.specs.Marks.{pair_cmp}
use Rattle.wb_footprints.specs.Relation.{IsLeastAfter, JoinedAfter, AreAllAfter}
use Rattle.wb_footprints.proofs.Added.{added_here, added_stays, added_from}
use Rattle.wb_footprints.proofs.AtMarks.{any_past, pair_less, pair_up}
use Rattle.wb_footprints.proofs.InRuns.{all_more}
use Rattle.wb_footprints.proofs.Meeting.{any_or, any_like, any_none}
use Rattle.wb_footprints.proofs.Setting.{either}
use Rattle.wb_footprints.proofs.InBlocks.{or_in, or_last}

-- ---- one number after another

-- the numbers up to `last` that pass have come in
pub record JoinedUpTo (old new : Numbers) (p : ℕ → Bool) (after last : ℕ) : Type 0 where
  pub order : after ≤ last
  pub from : (n : ℕ) → numbered new n ≡ true → (numbered old n ≡ true) ⊎ ((after < n) × (p n ≡ true))
  pub stay : (n : ℕ) → numbered old n ≡ true → numbered new n ≡ true
  pub all : (n : ℕ) → after < n → n ≤ last → p n ≡ true → numbered new n ≡ true

pub none_up_to : (old : Numbers) (p : ℕ → Bool) (after : ℕ) → JoinedUpTo old old p after after
none_up_to old p after = record { order = omega arith; from = λ n has. inl has; stay = λ n has. has; all = λ n low up is. absurd (omega (arith, low, up)) }

pub one_up_to : (old now new : Numbers) (p : ℕ → Bool) (after last j : ℕ) → JoinedUpTo old now p after last → IsLeastAfter p last (Some j) →
    ((n : ℕ) → numbered new n ≡ (if j == n then true else numbered now n)) → JoinedUpTo old new p after j
one_up_to old now new p after last j h (up, passes, least) is =
    record {
      order = omega (arith, up, h.order);
      from = λ n has. elim (added_from now new j is n has) [
        | inl had ↦ h.from n had
        | inr same ↦ inr (subst (λ (m : ℕ). (after < m) × (p m ≡ true)) same (omega (arith, up, h.order), passes))
      ];
      stay = λ n had. added_stays now new j is n (h.stay n had);
      all = λ n low high met. elim (cases_lt last n) [
        | inr old_one ↦ added_stays now new j is n (h.all n low old_one met)
        | inl later ↦ elim (cases_lt n j) [
          | inl below ↦ absurd (true≢false (sym met ∙ least n later below))
          | inr above ↦ let same : j ≡ n = omega (arith, above, high) in subst (λ (m : ℕ). numbered new m ≡ true) same (added_here now new j is)
        ]
      ];
    }

pub all_up_to : (old now : Numbers) (p : ℕ → Bool) (after last : ℕ) → JoinedUpTo old now p after last → IsLeastAfter p last None → JoinedAfter old now p after
all_up_to old now p after last h none =
    record {
      from = h.from;
      stay = h.stay;
      all = λ n low met. elim (cases_lt last n) [ inr up ↦ h.all n low up met | inl later ↦ absurd (true≢false (sym met ∙ none n later)) ];
    }

-- ---- pass by pass

pub none_joined : (old : Numbers) (p : ℕ → Bool) (after : ℕ) → ((n : ℕ) → after < n → p n ≡ false) → JoinedAfter old old p after
none_joined old p after none = record { from = λ n has. inl has; stay = λ n had. had; all = λ n up is. absurd (true≢false (sym is ∙ none n up)) }

pub then_joined : (old now new : Numbers) (p q : ℕ → Bool) (after : ℕ) → JoinedAfter old now p after → JoinedAfter now new q after →
    JoinedAfter old new (λ n. p n || q n) after
then_joined old now new p q after h g = record {
  from = λ n has. elim (g.from n has) [
    | inl mid ↦ elim (h.from n mid) [ inl had ↦ inl had | inr met ↦ inr (met.0, or_in (p n) (q n) met.1) ]
    | inr met ↦ inr (met.0, or_last (p n) (q n) met.1)
  ];
  stay = λ n had. g.stay n (h.stay n had);
  all = λ n up is. either (p n) (q n) (numbered new n ≡ true) (λ e. g.stay n (h.all n up e)) (λ e. g.all n up e) is;
}

-- only what is above the number counts
pub joined_above : (old new : Numbers) (p q : ℕ → Bool) (after : ℕ) → ((n : ℕ) → after < n → q n ≡ p n) → JoinedAfter old new p after →
    JoinedAfter old new q after
joined_above old new p q after e h = record {
  from = λ n has. elim (h.from n has) [ inl had ↦ inl had | inr met ↦ inr (met.0, e n met.0 ∙ met.1) ];
  stay = h.stay;
  all = λ n up is. h.all n up (sym (e n up) ∙ is);
}

pub joined_like : (old new : Numbers) (p q : ℕ → Bool) (after : ℕ) → ((n : ℕ) → q n ≡ p n) → JoinedAfter old new p after → JoinedAfter old new q after
joined_like old new p q after e h = joined_above old new p q after (λ n up. e n) h

-- ---- a list

module _ {A : Type 0} (f : A → ℕ → Bool) (after : ℕ) where
  -- one element more
  pub one_more : (old now new : Numbers) (xs : List A) (i : ℕ) (d : A) → i < length xs → (t : ℕ → Bool) → ((n : ℕ) → f (get_or xs i d) n ≡ t n) →
      JoinedAfter old now (λ n. list_any (λ y. f y n) (take i xs)) after → JoinedAfter now new t after →
      JoinedAfter old new (λ n. list_any (λ y. f y n) (take (i + 1) xs)) after
  one_more old now new xs i d l t e h g =
      joined_like old new (λ n. list_any (λ y. f y n) (take i xs) || t n) (λ n. list_any (λ y. f y n) (take (i + 1) xs)) after
      (λ n. list_any_more (λ y. f y n) xs i d l ∙ ap (λ b. list_any (λ z. f z n) (take i xs) || b) (e n))
      (then_joined old now new (λ n. list_any (λ y. f y n) (take i xs)) t after h g)

  pub all_joined : (old new : Numbers) (xs : List A) (i : ℕ) → length xs ≤ i → JoinedAfter old new (λ n. list_any (λ y. f y n) (take i xs)) after →
      JoinedAfter old new (λ n. list_any (λ y. f y n) xs) after
  all_joined old new xs i l h = joined_like old new (λ n. list_any (λ y. f y n) (take i xs)) (λ n. list_any (λ y. f y n) xs) after
      (λ n. ap (list_any (λ y. f y n)) (sym (take_all i xs l))) h

  -- one test and another of each element
  pub both_joined : (g : A → ℕ → Bool) (old now new : Numbers) (xs : List A) → JoinedAfter old now (λ n. list_any (λ y. f y n) xs) after →
      JoinedAfter now new (λ n. list_any (λ y. g y n) xs) after → JoinedAfter old new (λ n. list_any (λ y. f y n || g y n) xs) after
  both_joined g old now new xs h k =
      joined_like old new (λ n. list_any (λ y. f y n) xs || list_any (λ y. g y n) xs) (λ n. list_any (λ y. f y n || g y n) xs) after
      (λ n. any_or (λ y. f y n) (λ y. g y n) xs)
      (then_joined old now new (λ n. list_any (λ y. f y n) xs) (λ n. list_any (λ y. g y n) xs) after h k)

  -- the same test, said otherwise
  pub same_joined : (g : A → ℕ → Bool) → ((y : A) (n : ℕ) → g y n ≡ f y n) → (old new : Numbers) (xs : List A) →
      JoinedAfter old new (λ n. list_any (λ y. f y n) xs) after → JoinedAfter old new (λ n. list_any (λ y. g y n) xs) after
  same_joined g e old new xs h = joined_like old new (λ n. list_any (λ y. f y n) xs) (λ n. list_any (λ y. g y n) xs) after
      (λ n. any_like (λ y. g y n) (λ y. f y n) xs (λ y. e y n)) h

  pub nowhere_joined : ((y : A) (n : ℕ) → f y n ≡ false) → (old : Numbers) (xs : List A) → JoinedAfter old old (λ n. list_any (λ y. f y n) xs) after
  nowhere_joined e old xs = none_joined old (λ n. list_any (λ y. f y n) xs) after
      (λ n up. any_like (λ y. f y n) (λ y. false) xs (λ y. e y n) ∙ any_none xs)

  -- the elements of two lists
  pub lists_joined : (old now new : Numbers) (xs ys zs : List A) → zs ≡ xs ++ ys → JoinedAfter old now (λ n. list_any (λ y. f y n) xs) after →
      JoinedAfter now new (λ n. list_any (λ y. f y n) ys) after → JoinedAfter old new (λ n. list_any (λ y. f y n) zs) after
  lists_joined old now new xs ys zs e h k =
      joined_like old new (λ n. list_any (λ y. f y n) xs || list_any (λ y. f y n) ys) (λ n. list_any (λ y. f y n) zs) after
      (λ n. ap (list_any (λ y. f y n)) e ∙ list_any-append (λ y. f y n) xs ys)
      (then_joined old now new (λ n. list_any (λ y. f y n) xs) (λ n. list_any (λ y. f y n) ys) after h k)

-- ---- the changes of runs

pub more_runs : (rs : List ChangeRun) (i : ℕ) (r : ChangeRun) → i < length rs → r ≡ get_or rs i r →
    all_changes (take (i + 1) rs) ≡ all_changes (take i rs) ++ changes_in r.form
more_runs rs i r l is = all_more (λ (x : ChangeRun). changes_in x.form) rs i r l ∙ ap (λ (x : ChangeRun). all_changes (take i rs) ++ changes_in x.form) (sym is)

module _ (f : Change Cell Value → ℕ → Bool) (after : ℕ) (old : Numbers) (rs : List ChangeRun) where
  -- of one run more
  pub run_joined : (now new : Numbers) (i : ℕ) (r : ChangeRun) → i < length rs → r ≡ get_or rs i r →
      JoinedAfter old now (λ n. list_any (λ x. f x n) (all_changes (take i rs))) after →
      JoinedAfter now new (λ n. list_any (λ x. f x n) (changes_in r.form)) after →
      JoinedAfter old new (λ n. list_any (λ x. f x n) (all_changes (take (i + 1) rs))) after
  run_joined now new i r l is = lists_joined f after old now new (all_changes (take i rs)) (changes_in r.form) (all_changes (take (i + 1) rs))
      (more_runs rs i r l is)

  pub runs_joined : (new : Numbers) (i : ℕ) → length rs ≤ i → JoinedAfter old new (λ n. list_any (λ x. f x n) (all_changes (take i rs))) after →
      JoinedAfter old new (λ n. list_any (λ x. f x n) (all_changes rs)) after
  runs_joined new i l h = joined_like old new (λ n. list_any (λ x. f x n) (all_changes (take i rs))) (λ n. list_any (λ x. f x n) (all_changes rs)) after
      (λ n. ap (λ ss. list_any (λ x. f x n) (all_changes ss)) (sym (take_all i rs l))) h

-- ---- from key to key

module _ {K : Type 0} (cmp : K → K → Ordering) (total : IsTotalOrder cmp) (exact : IsAntisymmetric cmp) (f : K → ℕ → Bool) (after : ℕ) where
  -- one key, and those behind it at which nothing stands
  pub walked : (old now new : Numbers) (ps : List K) (at j : ℕ) (p : K) → at < length ps → p ≡ get_or ps at p → at < j → j ≤ length ps →
      ((i n : ℕ) (d : K) → at < i → i < j → after < n → f (get_or ps i d) n ≡ false) →
      JoinedAfter old now (λ n. list_any (λ q. f q n) (take at ps)) after → JoinedAfter now new (f p) after →
      JoinedAfter old new (λ n. list_any (λ q. f q n) (take j ps)) after
  walked old now new ps at j p l is low high none h g =
      let more : JoinedAfter old new (λ n. list_any (λ q. f q n) (take (at + 1) ps)) after =
      one_more f after old now new ps at p l (f p) (λ n. ap (λ q. f q n) (sym is)) h g in
      let e : (at + 1) + (j - (at + 1)) ≡ j = omega arith in
      subst (λ (i : ℕ). JoinedAfter old new (λ n. list_any (λ q. f q n) (take i ps)) after) e
      (joined_above old new (λ n. list_any (λ q. f q n) (take (at + 1) ps)) (λ n. list_any (λ q. f q n) (take ((at + 1) + (j - (at + 1))) ps)) after
      (λ n up. any_past (λ q. f q n) ps p (at + 1) (j - (at + 1)) (omega arith) (λ i from to. none i n p (omega arith) (omega arith) up)) more)

  -- nothing stands between a key and the first mark behind it
  pub none_between : (ps : List K) (at j : ℕ) (p k : K) (number : ℕ) → IsStrictlySortedBy cmp ps → at < length ps →
      p ≡ get_or ps at p → j ≤ length ps →
      ((q : K) (n : ℕ) → pair_cmp cmp (p, after) (q, n) ≡ Less → pair_cmp cmp (q, n) (k, number) ≡ Less → f q n ≡ false) →
      ((i : ℕ) (d : K) → at + 1 ≤ i → i < j → cmp (get_or ps i d) k ≡ Less) →
      (i n : ℕ) (d : K) → at < i → i < j → after < n → f (get_or ps i d) n ≡ false
  none_between ps at j p k number s l is high none below i n d low up above =
      none (get_or ps i d) n
      (subst (λ (q : K). pair_cmp cmp (q, after) (get_or ps i d, n) ≡ Less) (sym (is ∙ get_or_default ps at p d l))
      (pair_up cmp total exact ps at i d after n s (omega arith) (omega arith) above))
      (pair_less cmp total exact (get_or ps i d) k n number (below i d (omega arith) up))

  -- nothing stands behind the last mark
  pub none_after : (ps : List K) (at j : ℕ) (p : K) → IsStrictlySortedBy cmp ps → at < length ps → p ≡ get_or ps at p →
      j ≤ length ps →
      ((q : K) (n : ℕ) → pair_cmp cmp (p, after) (q, n) ≡ Less → f q n ≡ false) →
      (i n : ℕ) (d : K) → at < i → i < j → after < n → f (get_or ps i d) n ≡ false
  none_after ps at j p s l is high none i n d low up above =
      none (get_or ps i d) n
      (subst (λ (q : K). pair_cmp cmp (q, after) (get_or ps i d, n) ≡ Less) (sym (is ∙ get_or_default ps at p d l))
      (pair_up cmp total exact ps at i d after n s (omega arith) (omega arith) above))

-- ---- into an empty set

pub same_from : (a b : Bool) → (a ≡ true → b ≡ true) → (b ≡ true → a ≡ true) → a ≡ b
same_from true b f g = sym (f refl)
same_from false true f g = g refl
same_from false false f g = refl

pub only_joined : (empty new : Numbers) (p : ℕ → Bool) (after : ℕ) → ((n : ℕ) → numbered empty n ≡ false) → JoinedAfter empty new p after →
    (n : ℕ) → after < n → p n ≡ numbered new n
only_joined empty new p after none h n up = same_from (p n) (numbered new n) (h.all n up)
    (λ has. elim (h.from n has) [ inl had ↦ absurd (true≢false (sym had ∙ none n)) | inr met ↦ met.1 ])

least_above_like : (p q : ℕ → Bool) (after : ℕ) (r : Option ℕ) → ((n : ℕ) → after < n → q n ≡ p n) → IsLeastAfter p after r → IsLeastAfter q after r
least_above_like p q after None e h = λ n up. e n up ∙ h n up
least_above_like p q after (Some j) e h = (h.0, e j h.0 ∙ h.1, λ n up down. e n up ∙ h.2 n up down)

pub all_above_like : (p q : ℕ → Bool) (after : ℕ) (ns : List ℕ) → ((n : ℕ) → after < n → q n ≡ p n) → AreAllAfter p after ns → AreAllAfter q after ns
all_above_like p q after [] e h = least_above_like p q after None e h
all_above_like p q after (j ∷ js) e h =
    let up = h.0.0 in
    (least_above_like p q after (Some j) e h.0, all_above_like p q j js (λ n low. e n (omega (arith, up, low))) h.1)

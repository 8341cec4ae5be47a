-- A question goes through the blocks of one reach whose keys are near enough: those of other keys don't meet it.
use Rattle.std.proofs.Common.{◌≡◌, ℕ, ◌+◌, ◌-◌, ◌<◌, ◌≤◌, Bool, true, false, true≢false, cond, ◌&&◌, ◌||◌, ◌==◌, if◌then◌else◌, Option, Some, None, is_some, inl, inr}
use Rattle.std.proofs.Common.{List, [], ◌∷◌, refl, sym, ap, subst, ◌∙◌, arith}
use Rattle.std.specs.Prelude.{nat_le, nat_lt}
use Rattle.std.specs.BTreeMap.Range.{entries_between, range_contains}
use Rattle.std.specs.List.{list_any}
use Rattle.std.specs.Ordering.{MatchOrdering, nat_cmp, is_gt, eq_by_cmp}
use Rattle.std.specs.declared.cmp.Ordering.{Ordering}
use Rattle.std.specs.declared.cmp.Ordering.TheVariants.{Less, Equal, Greater}
use Rattle.std.specs.declared.ops.Bound.{Bound}
use Rattle.std.specs.declared.ops.Bound.TheVariants.{Included}
use Rattle.std.proofs.lemmas.Bool.{cases_lt}
use Rattle.std.proofs.lemmas.Bool.Decides.{nat_tests}
use Rattle.std.proofs.lemmas.Cmp.{ranked, nat_cmp_total}
use Rattle.std.proofs.lemmas.List.Folds.{Any-from_list_any}
use Rattle.std.proofs.lemmas.Map.Views.{range_contains-from_IsInRange}
use Rattle.wb_footprints.specs.declared.marks.blocks.Blocks.{Blocks}
use Rattle.wb_footprints.specs.declared.marks.key_marks.Marks.{Marks}
use Rattle.wb_footprints.specs.Numbers.{Numbers}
use Rattle.wb_footprints.specs.Blocks.{in_blocks}
use Rattle.wb_footprints.specs.Groups.{in_groups, is_kept, is_apart, AreAll}
use Rattle.wb_footprints.specs.Keys.{index_key}
use Rattle.wb_footprints.specs.Marks.{marked}
use Rattle.wb_cells.specs.declared.values.index.Index.{Index}
use Rattle.wb_footprints.specs.Indices.{in_indices}
use Rattle.wb_footprints.specs.Relation.{Sets, IsLeastAfter, JoinedAfter}
use Rattle.wb_footprints.proofs.InGroups.{Passes, and_both, cut}
use Rattle.wb_footprints.proofs.InIndices.{among}
use Rattle.wb_footprints.proofs.Joining.{then_joined, none_joined, joined_like}
use Rattle.wb_footprints.proofs.Meeting.{any_swap, least_like}

-- ---- what is kept

and_parts : (a b : Bool) → a && b ≡ true → (a ≡ true) × (b ≡ true)
and_parts true b e = (refl, e)
and_parts false b e = cc

at_most : (m n : ℕ) → nat_le m n ≡ true → m ≤ n
at_most m n e = grind (arith, nat_tests)

is_at_most : (m n : ℕ) → m ≤ n → nat_le m n ≡ true
is_at_most m n l = grind (arith, nat_tests)

is_less : (m n : ℕ) → m < n → nat_lt m n ≡ true
is_less m n l = grind (arith, nat_tests)

less_by : (m n : ℕ) → nat_lt m n ≡ true → m < n
less_by m n e = grind (arith, nat_tests)

module _ (reach : ℕ) (homes : Marks ℕ) (k : ℕ) (p : Index) (n : ℕ) where
  pub kept_parts : is_kept reach homes k p n ≡ true → (k ≤ index_key p) × (index_key p ≤ k + reach) × (0 < k) × (marked nat_cmp homes n k ≡ true)
  kept_parts e =
      let halves = and_parts (nat_le k (index_key p) && nat_le (index_key p) (k + reach)) (nat_lt 0 k && marked nat_cmp homes n k) e in
      let keys = and_parts (nat_le k (index_key p)) (nat_le (index_key p) (k + reach)) halves.0 in
      let home = and_parts (nat_lt 0 k) (marked nat_cmp homes n k) halves.1 in
      (at_most k (index_key p) keys.0, at_most (index_key p) (k + reach) keys.1, less_by 0 k home.0, home.1)

  pub kept_by : k ≤ index_key p → index_key p ≤ k + reach → 0 < k → marked nat_cmp homes n k ≡ true → is_kept reach homes k p n ≡ true
  kept_by low high some home =
      and_both (nat_le k (index_key p) && nat_le (index_key p) (k + reach)) (nat_lt 0 k && marked nat_cmp homes n k)
      (and_both (nat_le k (index_key p)) (nat_le (index_key p) (k + reach)) (is_at_most k (index_key p) low) (is_at_most (index_key p) (k + reach) high))
      (and_both (nat_lt 0 k) (marked nat_cmp homes n k) (is_less 0 k some) home)

same_test : (m n : ℕ) → eq_by_cmp nat_cmp m n ≡ (m == n)
same_test m n = grind (arith, nat_tests)

if_true : (c x : Bool) → x ≡ true → (if c then true else x) ≡ true
if_true true x e = refl
if_true false x e = e

if_here : (c x : Bool) → c ≡ true → (if c then true else x) ≡ true
if_here true x e = refl
if_here false x e = cc

itself : (n : ℕ) → (n == n) ≡ true
itself n = grind (arith, nat_tests)

-- with a home more
pub home_more : (reach : ℕ) (old new : Marks ℕ) (number key : ℕ) → Sets (marked nat_cmp old) (marked nat_cmp new) (eq_by_cmp nat_cmp number) key true →
    (k : ℕ) (p : Index) (n : ℕ) → is_kept reach old k p n ≡ true → is_kept reach new k p n ≡ true
home_more reach old new number key s k p n e =
    let parts = kept_parts reach old k p n e in
    kept_by reach new k p n parts.0 parts.1 parts.2 (s.at n k ∙ if_true (eq_by_cmp nat_cmp number n && (key == k)) (marked nat_cmp old n k) parts.3)

pub home_new : (old new : Marks ℕ) (number key : ℕ) → Sets (marked nat_cmp old) (marked nat_cmp new) (eq_by_cmp nat_cmp number) key true →
    marked nat_cmp new number key ≡ true
home_new old new number key s = s.at number key ∙
    if_here (eq_by_cmp nat_cmp number number && (key == key)) (marked nat_cmp old number key)
    (and_both (eq_by_cmp nat_cmp number number) (key == key) (same_test number number ∙ itself number) (itself key))

apart_home : (a b x : Bool) → cond (b && a) false true ≡ true → (if a && b then false else x) ≡ x
apart_home true true x e = cc
apart_home true false x e = refl
apart_home false b x e = refl

-- with a home less
pub home_less : (reach : ℕ) (old new : Marks ℕ) (number key : ℕ) → Sets (marked nat_cmp old) (marked nat_cmp new) (eq_by_cmp nat_cmp number) key false →
    (k : ℕ) (p : Index) (n : ℕ) → cut (is_kept reach old) key number k p n ≡ true → is_kept reach new k p n ≡ true
home_less reach old new number key s k p n e =
    let halves = and_parts (is_kept reach old k p n) (is_apart key number k n) e in
    let parts = kept_parts reach old k p n halves.0 in
    let apart : cond ((key == k) && eq_by_cmp nat_cmp number n) false true ≡ true = ap (λ b. cond ((key == k) && b) false true) (same_test number n) ∙ halves.1 in
    kept_by reach new k p n parts.0 parts.1 parts.2 (s.at n k ∙ apart_home (eq_by_cmp nat_cmp number n) (key == k) (marked nat_cmp old n k) apart ∙ parts.3)

not_true : (b : Bool) → (b ≡ true → ⊥) → b ≡ false
not_true true f = absurd (f refl)
not_true false f = refl

or_none : (a b : Bool) → a ≡ false → b ≡ false → a || b ≡ false
or_none true b e g = cc
or_none false b e g = g

-- a number without a home is in no block
pub homeless : (reach : ℕ) (homes : Marks ℕ) (number : ℕ) → ((k : ℕ) → 0 < k → marked nat_cmp homes number k ≡ false) → (gs : List (ℕ × Blocks)) →
    AreAll (is_kept reach homes) gs → (p : Index) → in_groups gs p number ≡ false
homeless reach homes number none [] a p = refl
homeless reach homes number none (g ∷ gs) a p = or_none (in_blocks g.1.list.items p number) (in_groups gs p number)
    (not_true (in_blocks g.1.list.items p number) (λ there.
    let parts = kept_parts reach homes g.0 p number (a.0 p number there) in
    true≢false (sym parts.3 ∙ none g.0 parts.2)))
    (homeless reach homes number none gs a.1 p)

-- ---- which keys are near enough

not_above : (a b : ℕ) → a ≤ b → is_gt (nat_cmp a b) ≡ false
not_above a b l = by (nat_cmp a b) (ranked a b (nat_cmp a b) refl)
  where
    by : (o : Ordering) → MatchOrdering o (a < b) (a ≡ b) (b < a) → is_gt o ≡ false
    by Less h = refl
    by Equal h = refl
    by Greater h = absurd (omega (arith, h, l))

pub forward : (low high reach : ℕ) → low ≤ high → is_gt (nat_cmp (low - reach) high) ≡ false
forward low high reach l = not_above (low - reach) high (omega (arith, l))

pub near : (low high reach k key : ℕ) → k ≤ key → key ≤ k + reach → low ≤ key → key ≤ high →
    range_contains nat_cmp (Included (low - reach)) (Included high) k ≡ true
near low high reach k key a b c d = range_contains-from_IsInRange nat_cmp_total (Included (low - reach)) (Included high) k
    (not_above (low - reach) k (omega (arith, b, c)), not_above k high (omega (arith, a, d)))

none_any : (f : Index → Bool) (ps : List Index) → ((p : Index) → in_indices ps p ≡ true → f p ≡ false) → list_any f ps ≡ false
none_any f ps none = not_true (list_any f ps) (λ some.
    let one = Any-from_list_any f ps some in
    true≢false (sym one.4 ∙ none one.1 (among ps one.0 one.1 one.2 one.3)))

-- whether a number stands at one of some indices by the blocks of a key
abbrev pub asked : List Index → (ℕ × Blocks) → ℕ → Bool
asked ps g n = list_any (λ p. in_blocks g.1.list.items p n) ps

-- by those of one of some keys
abbrev pub any_asked : List Index → List (ℕ × Blocks) → ℕ → Bool
any_asked ps gs n = list_any (λ g. asked ps g n) gs

module _ (reach : ℕ) (homes : Marks ℕ) (ps : List Index) (lo hi : Bound ℕ)
    (all : (p : Index) (k : ℕ) → in_indices ps p ≡ true → k ≤ index_key p → index_key p ≤ k + reach → range_contains nat_cmp lo hi k ≡ true) (n : ℕ) where
  far : (g : ℕ × Blocks) → Passes (is_kept reach homes) g.0 g.1 → range_contains nat_cmp lo hi g.0 ≡ false → asked ps g n ≡ false
  far g a out = none_any (λ p. in_blocks g.1.list.items p n) ps (λ p at. not_true (in_blocks g.1.list.items p n) (λ there.
      let parts = kept_parts reach homes g.0 p n (a p n there) in
      true≢false (sym (all p g.0 at parts.0 parts.1) ∙ out)))

  left_by : (g : ℕ × Blocks) (gs : List (ℕ × Blocks)) (b : Bool) → b ≡ range_contains nat_cmp lo hi g.0 → Passes (is_kept reach homes) g.0 g.1 →
      any_asked ps (entries_between nat_cmp lo hi gs) n ≡ any_asked ps gs n →
      any_asked ps (cond b (g ∷ entries_between nat_cmp lo hi gs) (entries_between nat_cmp lo hi gs)) n ≡ any_asked ps (g ∷ gs) n
  left_by g gs true is a rest = ap (λ x. asked ps g n || x) rest
  left_by g gs false is a rest = rest ∙ sym (ap (λ x. x || any_asked ps gs n) (far g a (sym is)))

  near_all : (gs : List (ℕ × Blocks)) → AreAll (is_kept reach homes) gs → any_asked ps (entries_between nat_cmp lo hi gs) n ≡ any_asked ps gs n
  near_all [] a = refl
  near_all (g ∷ gs) a = left_by g gs (range_contains nat_cmp lo hi g.0) refl a.0 (near_all gs a.1)

  -- the keys that are near tell all
  pub near_tell : (gs : List (ℕ × Blocks)) → AreAll (is_kept reach homes) gs →
      any_asked ps (entries_between nat_cmp lo hi gs) n ≡ list_any (λ p. in_groups gs p n) ps
  near_tell gs a = near_all gs a ∙ any_swap (λ (g : ℕ × Blocks) p. in_blocks g.1.list.items p n) gs ps

-- ---- through them

-- once what is left has joined, all have
abbrev pub IsLeftToJoin : Numbers → Numbers → (ℕ → Bool) → (ℕ → Bool) → ℕ → Type 0
IsLeftToJoin old now left all after = (later : Numbers) → JoinedAfter now later left after → JoinedAfter old later all after

pub all_left : (old : Numbers) (left all : ℕ → Bool) (after : ℕ) → ((n : ℕ) → all n ≡ left n) → IsLeftToJoin old old left all after
all_left old left all after e later h = joined_like old later left all after e h

pub one_left : (old now new : Numbers) (here left all : ℕ → Bool) (after : ℕ) → IsLeftToJoin old now (λ n. here n || left n) all after →
    JoinedAfter now new here after → IsLeftToJoin old new left all after
one_left old now new here left all after h one later rest = h later (then_joined now new later here left after one rest)

pub none_left : (old now : Numbers) (all : ℕ → Bool) (after : ℕ) → IsLeftToJoin old now (λ n. false) all after → JoinedAfter old now all after
none_left old now all after h = h now (none_joined now (λ n. false) after (λ n up. refl))

-- a number is the least of those that were asked, and these and what is left are all
abbrev pub IsLeastSoFar : Option ℕ → (ℕ → Bool) → (ℕ → Bool) → ℕ → Type 0
IsLeastSoFar first left all after = (q : ℕ → Bool) × IsLeastAfter q after first × ((n : ℕ) → all n ≡ q n || left n)

or_assoc : (a b c : Bool) → a || (b || c) ≡ (a || b) || c
or_assoc true b c = refl
or_assoc false b c = refl

or_false : (a : Bool) → a || false ≡ a
or_false true = refl
or_false false = refl

pub least_none : (left all : ℕ → Bool) (after : ℕ) → ((n : ℕ) → all n ≡ left n) → IsLeastSoFar None left all after
least_none left all after e = (λ n. false, λ n up. refl, e)

pub least_one : (first new : Option ℕ) (here left all : ℕ → Bool) (after : ℕ) → IsLeastSoFar first (λ n. here n || left n) all after →
    ((q : ℕ → Bool) → IsLeastAfter q after first → IsLeastAfter (λ n. q n || here n) after new) → IsLeastSoFar new left all after
least_one first new here left all after h more = (λ n. h.0 n || here n, more h.0 h.1, λ n. h.2 n ∙ or_assoc (h.0 n) (here n) (left n))

pub least_all : (first : Option ℕ) (all : ℕ → Bool) (after : ℕ) → IsLeastSoFar first (λ n. false) all after → IsLeastAfter all after first
least_all first all after h = least_like h.0 all after first (λ n. h.2 n ∙ or_false (h.0 n)) h.1

-- ---- a number is taken away from home to home

pub gone_all : (homes : Marks ℕ) (number from : ℕ) → IsLeastAfter (marked nat_cmp homes number) from None →
    ((k : ℕ) → 0 < k → k ≤ from → marked nat_cmp homes number k ≡ false) → (k : ℕ) → 0 < k → marked nat_cmp homes number k ≡ false
gone_all homes number from none before k some = elim (cases_lt from k) [ inl later ↦ none k later | inr early ↦ before k some early ]

number_is : (m n : ℕ) → (m == n) ≡ true → m ≡ n
number_is m n e = grind (arith, nat_tests)

pub emptied : (old new : Index → ℕ → Bool) (number : ℕ) → ((p : Index) (n : ℕ) → (number == n) ≡ false → new p n ≡ old p n) →
    ((p : Index) → new p number ≡ false) → Sets old new (λ p. true) number false
emptied old new number others gone = record { at = λ p n. by p n (number == n) refl }
  where
    by : (p : Index) (n : ℕ) (b : Bool) → (number == n) ≡ b → new p n ≡ (if true && b then false else old p n)
    by p n true e = subst (λ (k : ℕ). new p k ≡ false) (number_is number n e) (gone p)
    by p n false e = others p n e

pub none_behind : (p : ℕ → Bool) (after : ℕ) (r : Option ℕ) → is_some r ≡ false → IsLeastAfter p after r → IsLeastAfter p after None
none_behind p after None e h = h
none_behind p after (Some j) e h = cc

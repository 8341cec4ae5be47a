-- The numbers at a key stand together in the order of the pairs: the first of them above a number is what lies there first.
use Rattle.std.proofs.Common.{◌≡◌, ℕ, ◌<◌, Bool, true, false, cond, ◌&&◌, ◌==◌, List, [], ◌∷◌, Some, None, refl, sym, ap, ◌∙◌, arith, IsTrue, length}
use Rattle.std.proofs.lemmas.Bool.Decides.{nat_tests}
use Rattle.std.specs.BTreeMap.{is_at}
use Rattle.std.specs.List.{list_any}
use Rattle.std.proofs.lemmas.List.{nil_from_length}
use Rattle.std.specs.BTreeSet.{BTreeSet, contains, IsKeyRangeOf}
use Rattle.std.specs.Cmp.{IsTotalOrder, nat_cmp_is}
use Rattle.std.specs.Ordering.{nat_cmp, ordering_then, ordering_reverse, is_eq, is_gt, eq_by_cmp}
use Rattle.std.specs.declared.cmp.Ordering.{Ordering}
use Rattle.std.specs.declared.cmp.Ordering.TheVariants.{Less, Equal, Greater}
use Rattle.std.specs.declared.ops.Bound.TheVariants.{Excluded, Unbounded}
use Rattle.std.proofs.lemmas.Cmp.{ranked, tied_itself, tied_back, then_total, on_total, eq_by_cmp_equiv, nat_cmp_total}
use Rattle.std.proofs.lemmas.Map.Steps.{list_any_congr}
use Rattle.wb_footprints.specs.declared.marks.key_marks.Marks.{Marks}
use Rattle.wb_footprints.specs.Relation.{Sets, IsLeastAfter}
use Rattle.wb_footprints.specs.Marks.{pair_cmp, marked}

pub equal_from : (p : Ordering) → is_eq p ≡ true → p ≡ Equal
equal_from Less e = cc
equal_from Equal e = refl
equal_from Greater e = cc

-- of two pairs in order at different keys, the second isn't before the first's key
by_order : (m k p q : Ordering) → q ≡ ordering_reverse p → ordering_then p m ≡ Less → is_gt (ordering_then q k) ≡ false → q ≡ Equal
by_order m k Less q e less least = let gt : q ≡ Greater = e in let bad : is_gt (ordering_then q k) ≡ true = rw gt in cc
by_order m k Equal q e less least = e
by_order m k Greater q e less least = cc

tie_then : (p : Ordering) (m n : ℕ) → is_eq (ordering_then p (nat_cmp m n)) ≡ (is_eq p && (m == n))
tie_then Less m n = refl
tie_then Equal m n = grind (arith, nat_tests)
tie_then Greater m n = refl

module _ {K : Type 0} (cmp : K → K → Ordering) where
  pub sets_from : (old new : Marks K) (key : K) (number : ℕ) (b : Bool) →
      ((q : K × ℕ) → contains (pair_cmp cmp) new.set q ≡ cond (is_at (pair_cmp cmp (key, number)) q) b (contains (pair_cmp cmp) old.set q)) →
      Sets (marked cmp old) (marked cmp new) (eq_by_cmp cmp key) number b
  sets_from old new key number b h = record { at = λ k n. rw (h (k, n), tie_then (cmp key k) number n) }

pair_total : {K : Type 0} (cmp : K → K → Ordering) → IsTotalOrder cmp → IsTotalOrder (pair_cmp cmp)
pair_total {K} cmp o = then_total (on_total {K = K × ℕ} (λ p. p.0) o) (on_total {K = K × ℕ} (λ p. p.1) nat_cmp_total)

module _ {K : Type 0} (cmp : K → K → Ordering) (o : IsTotalOrder cmp) where
  -- a greater number stands behind a lesser one at the same key
  pub behind : (key : K) (m n : ℕ) → m < n → pair_cmp cmp (key, m) (key, n) ≡ Less
  behind key m n up = rw (tied_itself o key) (sym (nat_cmp_is m n Less up))

  before : (x key : K) (m n : ℕ) → cmp x key ≡ Equal → n < m → pair_cmp cmp (x, m) (key, n) ≡ Greater
  before x key m n tie down = rw tie (sym (nat_cmp_is m n Greater down))

  pub above : (x key : K) (m n : ℕ) → cmp x key ≡ Equal → pair_cmp cmp (key, m) (x, n) ≡ Less → m < n
  above x key m n tie less =
      let tied : nat_cmp m n ≡ Less = rw (tied_back o x key tie) at less in
      ranked m n Less (sym tied)

  module _ (s : BTreeSet (K × ℕ)) (key : K) (after : ℕ) where
    abbrev IsBehind : List (K × ℕ) → Type 0
    IsBehind r = IsKeyRangeOf (pair_cmp cmp) (Excluded (key, after)) Unbounded s r

    abbrev has : ℕ → Bool
    has n = contains (pair_cmp cmp) s (key, n)

    pub none_behind : (r : List (K × ℕ)) → IsBehind r → r ≡ [] → IsLeastAfter has after None
    none_behind r h e = λ n up. h.5 e (key, n) (behind key after n up, tt)

    not_between : (b : Bool) (x : K) (j n : ℕ) → cmp x key ≡ Equal → (IsTrue b → is_gt (pair_cmp cmp (x, j) (key, n)) ≡ false) → n < j → b ≡ false
    not_between true x j n tie least down = let at : is_gt (pair_cmp cmp (x, j) (key, n)) ≡ false = least (refl) in let gt = before x key j n tie down in cc
    not_between false x j n tie least down = refl

    pub first_found : (r t : List (K × ℕ)) (x : K × ℕ) → IsBehind r → r ≡ x ∷ t → is_eq (cmp x.0 key) ≡ true → IsLeastAfter has after (Some x.1)
    first_found r t x h e same =
        let tie = equal_from (cmp x.0 key) same in
        let at = rw e at h in
        let back : eq_by_cmp (pair_cmp cmp) (key, x.1) x ≡ true = rw (tied_back o x.0 key tie, tied_itself nat_cmp_total x.1) in (
          above x.0 key after x.1 tie at.1.0.0,
          list_any_congr (eq_by_cmp_equiv (pair_total cmp o)) (key, x.1) x s.keys back ∙ at.1.1,
          λ n up down. not_between (has n) x.0 x.1 n tie (λ there. at.2 (key, n) (behind key after n up, tt) there) down,
        )

    apart_from : (b : Bool) (x : K × ℕ) (n : ℕ) → pair_cmp cmp (key, after) x ≡ Less → (cmp x.0 key ≡ Equal → ⊥) →
        (IsTrue b → is_gt (pair_cmp cmp x (key, n)) ≡ false) → b ≡ false
    apart_from false x n less apart least = refl
    apart_from true x n less apart least = absurd (apart (by_order (nat_cmp after x.1) (nat_cmp x.1 n) (cmp key x.0) (cmp x.0 key) (o.antisymm x.0 key) less
        (least refl)))

    pub other_found : (r t : List (K × ℕ)) (x : K × ℕ) → IsBehind r → r ≡ x ∷ t → is_eq (cmp x.0 key) ≡ false → IsLeastAfter has after None
    other_found r t x h e apart =
        let at = rw e at h in
        λ n up. apart_from (has n) x n at.1.0.0 (λ tie. let yes = rw tie at apart in cc) (λ there. at.2 (key, n) (behind key after n up, tt) there)

    -- the first behind a pair: nothing is between

    pub none_at : (r : List (K × ℕ)) → IsBehind r → r ≡ [] → (k : K) (n : ℕ) → pair_cmp cmp (key, after) (k, n) ≡ Less →
        contains (pair_cmp cmp) s (k, n) ≡ false
    none_at r h e k n up = h.5 e (k, n) (up, tt)

    pub mark_at : (r t : List (K × ℕ)) (x : K × ℕ) → IsBehind r → r ≡ x ∷ t →
        (pair_cmp cmp (key, after) x ≡ Less) × (contains (pair_cmp cmp) s x ≡ true)
    mark_at r t x h e = let at = rw e at h in (at.1.0.0, at.1.1)

    not_before : (b : Bool) (x q : K × ℕ) → pair_cmp cmp q x ≡ Less → (IsTrue b → is_gt (pair_cmp cmp x q) ≡ false) → b ≡ false
    not_before false x q down least = refl
    not_before true x q down least =
        let low : is_gt (pair_cmp cmp x q) ≡ false = least (refl) in
        let high : is_gt (pair_cmp cmp x q) ≡ true = ap is_gt ((pair_total cmp o).antisymm x q ∙ ap ordering_reverse down) in
        cc

    pub none_before : (r t : List (K × ℕ)) (x : K × ℕ) → IsBehind r → r ≡ x ∷ t → (k : K) (n : ℕ) → pair_cmp cmp (key, after) (k, n) ≡ Less →
        pair_cmp cmp (k, n) x ≡ Less → contains (pair_cmp cmp) s (k, n) ≡ false
    none_before r t x h e k n up down =
        let at = rw e at h in
        not_before (contains (pair_cmp cmp) s (k, n)) x (k, n) down (λ there. at.2 (k, n) (up, tt) there)

pub none_at_all : {K : Type 0} (cmp : K → K → Ordering) (m : Marks K) → length m.set.keys ≡ 0 → (k : K) (n : ℕ) → marked cmp m k n ≡ false
none_at_all cmp m e k n = ap (list_any (is_at (pair_cmp cmp (k, n)))) (nil_from_length m.set.keys e)

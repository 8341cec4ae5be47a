-- The pieces of an array, merged, are the array.
use Rattle.std.proofs.Common.{◌≡◌, ℕ, zero, suc, ◌+◌, ◌<◌, ◌≤◌, ℤ, Bool, true, false, cond, ◌||◌, List, [], ◌∷◌, ◌++◌, map, filter, length, get_or, drop}
use Rattle.std.proofs.Common.{Option, Some, None, is_some, T, ◌&&◌, ◌⊎◌, inl, inr, eq-eqb, refl, sym, ap, subst, ◌∙◌, arith}
use Rattle.std.proofs.Common.{eqb}
use Rattle.std.specs.declared.vec.Vec.{Vec}
use Rattle.std.specs.declared.cmp.Ordering.{Ordering}
use Rattle.std.specs.declared.cmp.Ordering.TheVariants.{Less, Equal}
use Rattle.std.specs.Ordering.{is_eq, is_lt, eq_by_cmp}
use Rattle.std.specs.Cmp.{IsTotalOrder, eq_by_cmp_equiv}
use Rattle.std.specs.FinMap.{IsAntisymmetric, entries, from_entries, entries_sorted, get-entries, get-from_entries, find, is_sorted}
use Rattle.std.specs.FinMap.Entries.{same_entries, below_all}
use Rattle.std.specs.List.{range_with_len, flat_map, list_any, AllByRecursion}
use Rattle.std.specs.List.Sorted.{IsStrictlySortedBy}
use Rattle.std.specs.Option.{option_or}
use Rattle.std.specs.Map.{keys_of, update, update_all}
use Rattle.std.specs.BTreeMap.{BTreeMap, IsFromIterResult}
use Rattle.std.proofs.lemmas.Bool.{true≢false, cases_lt}
use Rattle.std.proofs.lemmas.List.{append_assoc, append-nil}
use Rattle.std.proofs.lemmas.Map.Keys.{IsDistinct-from_sorted}
use Rattle.std.proofs.lemmas.Map.Made.{update_all_distinct}
use Rattle.wb_arrays.specs.Elements.{value_at}
use Rattle.std.proofs.lemmas.List.Kept.{IsStrictlySortedBy-filter}
use Rattle.std.proofs.lemmas.List.FromFn.{length-map-range_with_len, get_or-map-range_with_len}
use Rattle.wb_arrays.specs.Pieces.{piece_of, pieces_of, LieBelow, merged, lists_of, IsSplit}

both-left : (a b : Bool) → (a && b) ≡ true → a ≡ true
both-left true b h = refl
both-left false b h = absurd (true≢false (sym h))

both-right : (a b : Bool) → (a && b) ≡ true → b ≡ true
both-right true b h = h
both-right false b h = absurd (true≢false (sym h))

T-true : (b : Bool) → T b → b ≡ true
T-true true h = refl
T-true false h = absurd h

true-T : (b : Bool) → b ≡ true → T b
true-T true h = tt
true-T false h = absurd (true≢false (sym h))

pub drop_at : {X : Type 0} (xs : List X) (k : ℕ) (x : X) → k < length xs → x ≡ get_or xs k x → drop k xs ≡ x ∷ drop (k + 1) xs
drop_at [] k x l e = absurd (omega arith)
drop_at (y ∷ xs) zero x l e = λ i. sym e i ∷ xs
drop_at (y ∷ xs) (suc k) x l e = let next : suc k + 1 ≡ suc (k + 1) = omega arith in rw next (drop_at xs k x (omega arith) e)

pub drop_past : {X : Type 0} (xs : List X) (k : ℕ) → length xs ≤ k → drop k xs ≡ []
drop_past [] zero l = refl
drop_past [] (suc k) l = refl
drop_past (x ∷ xs) zero l = absurd (omega arith)
drop_past (x ∷ xs) (suc k) l = drop_past xs k (omega arith)

-- pieces one behind the other
module _ {I Z : Type 0} (vs : List (Vec (I × ℤ) Z)) where
  pub chained_more : (k : ℕ) (x : Vec (I × ℤ) Z) (old new whole : List (I × ℤ)) → k < length vs → x ≡ get_or vs k x → new ≡ old ++ x.items →
      old ++ flat_map (λ p. p) (lists_of (drop k vs)) ≡ whole → new ++ flat_map (λ p. p) (lists_of (drop (k + 1) vs)) ≡ whole
  chained_more k x old new whole l is more h =
      let left = λ (ws : List (Vec (I × ℤ) Z)). old ++ flat_map (λ p. p) (lists_of ws) in
      rw more (append_assoc old x.items (flat_map (λ p. p) (lists_of (drop (k + 1) vs))) ∙ ap left (sym (drop_at vs k x l is)) ∙ h)

  pub chained_all : (k : ℕ) (old whole : List (I × ℤ)) → length vs ≤ k → old ++ flat_map (λ p. p) (lists_of (drop k vs)) ≡ whole → old ≡ whole
  chained_all k old whole l h =
      let left = λ (ws : List (Vec (I × ℤ) Z)). old ++ flat_map (λ p. p) (lists_of ws) in
      sym (append-nil old) ∙ ap left (sym (drop_past vs k l)) ∙ h

-- where all indices have the one locale, its piece is the array
pub all_on_one : {I : Type 0} (locale : I → ℕ) (es : List (I × ℤ)) → LieBelow locale 1 es → piece_of locale es 0 ≡ es
all_on_one locale [] low = refl
all_on_one locale (e ∷ es) low = rw (eq-eqb (locale e.0) 0 (omega (arith, low.0))) (ap (λ xs. e ∷ xs) (all_on_one locale es low.1))

module _ {I : Type 0} (cmp : I → I → Ordering) where
  find-is : (es : List (I × ℤ)) (q : I) → find cmp q es ≡ value_at cmp es q
  find-is [] q = refl
  find-is (e ∷ es) q = ap (λ o. cond (is_eq (cmp q e.0)) (Some e.1) o) (find-is es q)

  is_less : (o : Ordering) → is_lt o ≡ true → o ≡ Less
  is_less o h = grind arith

  value_at-append : (xs ys : List (I × ℤ)) (q : I) → value_at cmp (xs ++ ys) q ≡ option_or (value_at cmp xs q) (value_at cmp ys q)
  value_at-append [] ys q = refl
  value_at-append (e ∷ xs) ys q = by (is_eq (cmp q e.0)) (value_at-append xs ys q)
    where
      by : (b : Bool) → value_at cmp (xs ++ ys) q ≡ option_or (value_at cmp xs q) (value_at cmp ys q) →
          cond b (Some e.1) (value_at cmp (xs ++ ys) q) ≡ option_or (cond b (Some e.1) (value_at cmp xs q)) (value_at cmp ys q)
      by true h = refl
      by false h = h

  module _ (exact : IsAntisymmetric cmp) (locale : I → ℕ) where
    same_index : (q k : I) → is_eq (cmp q k) ≡ true → q ≡ k
    same_index q k h = exact q k (equal _ h)
      where
        equal : (o : Ordering) → is_eq o ≡ true → o ≡ Equal
        equal o g = grind arith

    -- a look-up in a piece
    pub value_at-piece : (es : List (I × ℤ)) (l : ℕ) (q : I) → value_at cmp (piece_of locale es l) q ≡ cond (eqb (locale q) l) (value_at cmp es q) None
    value_at-piece [] l q = either (eqb (locale q) l) None
      where
        either : (b : Bool) (x : Option ℤ) → x ≡ cond b x x
        either true x = refl
        either false x = refl
    value_at-piece (e ∷ es) l q =
        inside (eqb (locale e.0) l) ∙ by (eqb (locale e.0) l) (eqb (locale q) l) (is_eq (cmp q e.0)) (value_at cmp (piece_of locale es l) q)
        (value_at cmp es q) (λ h. ap (λ k. eqb (locale k) l) (sym (same_index q e.0 h))) (value_at-piece es l q)
      where
        inside : (b : Bool) → value_at cmp (cond b (e ∷ piece_of locale es l) (piece_of locale es l)) q ≡ cond b
            (cond (is_eq (cmp q e.0)) (Some e.1) (value_at cmp (piece_of locale es l) q)) (value_at cmp (piece_of locale es l) q)
        inside true = refl
        inside false = refl

        by : (b h c : Bool) (m v : Option ℤ) → (c ≡ true → b ≡ h) → m ≡ cond h v None → cond b (cond c (Some e.1) m) m ≡ cond h (cond c (Some e.1) v) None
        by true true true m v same again = refl
        by true true false m v same again = again
        by true false true m v same again = absurd (true≢false (same refl))
        by true false false m v same again = again
        by false true true m v same again = absurd (true≢false (sym (same refl)))
        by false true false m v same again = again
        by false false c m v same again = again

    -- a look-up in the pieces of some locales
    value_at-pieces : (es : List (I × ℤ)) (ls : List ℕ) (q : I) →
        value_at cmp (flat_map (λ p. p) (map (piece_of locale es) ls)) q ≡ cond (list_any (eqb (locale q)) ls) (value_at cmp es q) None
    value_at-pieces es [] q = refl
    value_at-pieces es (l ∷ ls) q =
        value_at-append (piece_of locale es l) (flat_map (λ p. p) (map (piece_of locale es) ls)) q ∙
        rw (value_at-piece es l q, value_at-pieces es ls q) (by (eqb (locale q) l) (list_any (eqb (locale q)) ls) (value_at cmp es q))
      where
        by : (a b : Bool) (v : Option ℤ) → option_or (cond a v None) (cond b v None) ≡ cond (a || b) v None
        by true true None = refl
        by true true (Some v) = refl
        by true false None = refl
        by true false (Some v) = refl
        by false true v = refl
        by false false v = refl

    in_range : (a n k : ℕ) → a ≤ k → k < a + n → list_any (eqb k) (range_with_len a n) ≡ true
    in_range a zero k h l = absurd (omega arith)
    in_range a (suc n) k h l = by (cases_lt a k) (λ g. in_range (a + 1) n k g (omega arith))
      where
        or_true : (b : Bool) → (b || true) ≡ true
        or_true true = refl
        or_true false = refl

        by : (a < k) ⊎ (k ≤ a) → (a + 1 ≤ k → list_any (eqb k) (range_with_len (a + 1) n) ≡ true) →
            (eqb k a || list_any (eqb k) (range_with_len (a + 1) n)) ≡ true
        by (inl g) again = rw (again (omega arith)) (or_true (eqb k a))
        by (inr g) again = rw (eq-eqb k a (omega arith)) refl

    has_locale : (n : ℕ) (es : List (I × ℤ)) (q : I) → LieBelow locale n es → is_some (value_at cmp es q) ≡ true → locale q < n
    has_locale n [] q below h = absurd (true≢false (sym h))
    has_locale n (e ∷ es) q below h = by (is_eq (cmp q e.0)) refl h (λ f. has_locale n es q below.1 f)
      where
        by : (b : Bool) → is_eq (cmp q e.0) ≡ b → is_some (cond b (Some e.1) (value_at cmp es q)) ≡ true →
            (is_some (value_at cmp es q) ≡ true → locale q < n) → locale q < n
        by true g f again = subst (λ (k : I). locale k < n) (sym (same_index q e.0 g)) below.0
        by false g f again = again f

    value_at-split : (n : ℕ) (es : List (I × ℤ)) (q : I) → LieBelow locale n es → value_at cmp (flat_map (λ p. p) (pieces_of locale n es)) q ≡ value_at cmp es q
    value_at-split n es q below = value_at-pieces es (range_with_len 0 n) q ∙ by (value_at cmp es q) refl (list_any (eqb (locale q)) (range_with_len 0 n)) refl
      where
        by : (v : Option ℤ) → value_at cmp es q ≡ v → (b : Bool) → list_any (eqb (locale q)) (range_with_len 0 n) ≡ b → cond b v None ≡ v
        by None e true g = refl
        by None e false g = refl
        by (Some v) e true g = refl
        by (Some v) e false g =
            let l : locale q < n = has_locale n es q below (ap is_some e) in
            absurd (true≢false (sym (in_range 0 n (locale q) (omega arith) (omega arith)) ∙ g))

  -- the keys that ascend, in the two forms
  below_each : (x : I) (es : List (I × ℤ)) → below_all cmp x es ≡ true → AllByRecursion (λ y. cmp x y ≡ Less) (keys_of es)
  below_each x [] h = tt
  below_each x (e ∷ es) h = (is_less _ (both-left _ _ h), below_each x es (both-right _ _ h))

  pub ascending_from_test : (es : List (I × ℤ)) → is_sorted cmp es ≡ true → IsStrictlySortedBy cmp (keys_of es)
  unfolding IsStrictlySortedBy
  ascending_from_test [] h = tt
  ascending_from_test (e ∷ es) h = (below_each e.0 es (both-left _ _ h), ascending_from_test es (both-right _ _ h))

  all_below : (x : I) (es : List (I × ℤ)) → AllByRecursion (λ y. cmp x y ≡ Less) (keys_of es) → below_all cmp x es ≡ true
  all_below x [] h = refl
  all_below x (e ∷ es) h = rw (h.0, all_below x es h.1) refl

  pub test_from_ascending : (es : List (I × ℤ)) → IsStrictlySortedBy cmp (keys_of es) → is_sorted cmp es ≡ true
  unfolding IsStrictlySortedBy
  test_from_ascending [] h = refl
  test_from_ascending (e ∷ es) h = rw (all_below e.0 es h.0, test_from_ascending es h.1) refl

  module _ (total : IsTotalOrder cmp) where
    pub merged-ascending : (ps : List (List (I × ℤ))) → IsStrictlySortedBy cmp (keys_of (merged cmp ps))
    merged-ascending ps = ascending_from_test (merged cmp ps) (T-true _ (entries_sorted (from_entries {R = cmp} (flat_map (λ p. p) ps))))

    module _ (exact : IsAntisymmetric cmp) where
      -- pieces that look up as an ascending list does are that list, merged
      pub merged_is : (ps : List (List (I × ℤ))) (es : List (I × ℤ)) → IsStrictlySortedBy cmp (keys_of es) →
          ((q : I) → value_at cmp (flat_map (λ p. p) ps) q ≡ value_at cmp es q) → merged cmp ps ≡ es
      merged_is ps es h same =
          let m = from_entries {R = cmp} (flat_map (λ p. p) ps) in
          same_entries cmp total exact (entries m) es (entries_sorted m) (true-T _ (test_from_ascending es h))
          (λ q. sym (get-entries m q) ∙ get-from_entries total (flat_map (λ p. p) ps) q ∙ find-is (flat_map (λ p. p) ps) q ∙ same q ∙ sym (find-is es q))

      pub merged-split : (locale : I → ℕ) (n : ℕ) (es : List (I × ℤ)) → IsStrictlySortedBy cmp (keys_of es) → LieBelow locale n es →
          merged cmp (pieces_of locale n es) ≡ es
      merged-split locale n es h below = merged_is (pieces_of locale n es) es h (λ q. value_at-split exact locale n es q below)

      -- what the pieces of an ascending array keep
      pub is_split : (locale : I → ℕ) (n size : ℕ) (ps : List (List (I × ℤ))) (es : List (I × ℤ)) → IsStrictlySortedBy cmp (keys_of es) →
          LieBelow locale n es → ps ≡ pieces_of locale n es → size ≡ length es → (merged cmp ps ≡ es) × IsSplit cmp locale n size ps
      is_split locale n size ps es h below is count =
          let whole : merged cmp ps ≡ es = ap (merged cmp) is ∙ merged-split locale n es h below in (
            whole,
            record {
              pieces = is ∙ ap (pieces_of locale n) (sym whole);
              below = subst (λ (xs : List (I × ℤ)). LieBelow locale n xs) (sym whole) below;
              count = count ∙ ap length (sym whole);
            },
          )

  -- the piece at a locale
  pub piece_at : (locale : I → ℕ) (n size : ℕ) (ps : List (List (I × ℤ))) (l : ℕ) → IsSplit cmp locale n size ps → l < length ps → (l < n) ×
      (get_or ps l [] ≡ piece_of locale (merged cmp ps) l)
  piece_at locale n size ps l u h =
      let many : length ps ≡ n = ap length u.pieces ∙ length-map-range_with_len (piece_of locale (merged cmp ps)) 0 n in
      let within : l < n = omega arith in
      (within, ap (λ xs. get_or xs l []) u.pieces ∙ get_or-map-range_with_len (piece_of locale (merged cmp ps)) 0 n l l [] within (omega arith))

  pub piece_count : (locale : I → ℕ) (n size : ℕ) (ps : List (List (I × ℤ))) → IsSplit cmp locale n size ps → length ps ≡ n
  piece_count locale n size ps u = ap length u.pieces ∙ length-map-range_with_len (piece_of locale (merged cmp ps)) 0 n

  keys_of-piece : (locale : I → ℕ) (es : List (I × ℤ)) (l : ℕ) → keys_of (piece_of locale es l) ≡ filter (λ k. eqb (locale k) l) (keys_of es)
  keys_of-piece locale [] l = refl
  keys_of-piece locale (e ∷ es) l = by (eqb (locale e.0) l) (keys_of-piece locale es l)
    where
      by : (b : Bool) → keys_of (piece_of locale es l) ≡ filter (λ k. eqb (locale k) l) (keys_of es) →
          keys_of (cond b (e ∷ piece_of locale es l) (piece_of locale es l)) ≡ cond b (e.0 ∷ filter (λ k. eqb (locale k) l) (keys_of es))
          (filter (λ k. eqb (locale k) l) (keys_of es))
      by true h = ap (λ ks. e.0 ∷ ks) h
      by false h = h

  pub piece-ascending : (locale : I → ℕ) (es : List (I × ℤ)) (l : ℕ) → IsStrictlySortedBy cmp (keys_of es) →
      IsStrictlySortedBy cmp (keys_of (piece_of locale es l))
  piece-ascending locale es l h = rw (keys_of-piece locale es l) (IsStrictlySortedBy-filter cmp (λ k. eqb (locale k) l) (keys_of es) h)

  -- a map that is made of all pieces at once
  update_all-append : (f : I → Option ℤ) (xs ys : List (I × ℤ)) (q : I) →
      update_all (eq_by_cmp cmp) f (xs ++ ys) q ≡ update_all (eq_by_cmp cmp) (update_all (eq_by_cmp cmp) f xs) ys q
  update_all-append f [] ys q = refl
  update_all-append f (e ∷ xs) ys q = update_all-append (update (eq_by_cmp cmp) f e.0 (Some e.1)) xs ys q

  module _ (total : IsTotalOrder cmp) (exact : IsAntisymmetric cmp) (locale : I → ℕ) where
    all_at_once : (es : List (I × ℤ)) → IsStrictlySortedBy cmp (keys_of es) → (ls : List ℕ) (f : I → Option ℤ) (q : I) →
        update_all (eq_by_cmp cmp) f (flat_map (λ p. p) (map (piece_of locale es) ls)) q ≡ cond (list_any (eqb (locale q)) ls)
        (option_or (value_at cmp es q) (f q)) (f q)
    all_at_once es h [] f q = refl
    all_at_once es h (l ∷ ls) f q =
        let piece = piece_of locale es l in
        let distinct = IsDistinct-from_sorted cmp (keys_of piece) (piece-ascending locale es l h) in
        let one : update_all (eq_by_cmp cmp) f piece q ≡ option_or (cond (eqb (locale q) l) (value_at cmp es q) None) (f q) =
        update_all_distinct (eq_by_cmp_equiv total) (eq_by_cmp cmp) (λ x y. refl) f piece q distinct ∙
        ap (λ v. option_or v (f q)) (value_at-piece exact locale es l q) in
        update_all-append f piece (flat_map (λ p. p) (map (piece_of locale es) ls)) q ∙
        all_at_once es h ls (update_all (eq_by_cmp cmp) f piece) q ∙
        ap (λ o. cond (list_any (eqb (locale q)) ls) (option_or (value_at cmp es q) o) o) one ∙
        by (eqb (locale q) l) (list_any (eqb (locale q)) ls) (value_at cmp es q) (f q)
      where
        by : (a b : Bool) (v o : Option ℤ) →
            cond b (option_or v (option_or (cond a v None) o)) (option_or (cond a v None) o) ≡ cond (a || b) (option_or v o) o
        by true true None o = refl
        by true true (Some v) o = refl
        by true false v o = refl
        by false true v o = refl
        by false false v o = refl

    collected_at : (n : ℕ) (es : List (I × ℤ)) (q : I) → IsStrictlySortedBy cmp (keys_of es) → LieBelow locale n es →
        update_all (eq_by_cmp cmp) (λ k. None) (flat_map (λ p. p) (pieces_of locale n es)) q ≡ value_at cmp es q
    collected_at n es q h below =
        all_at_once es h (range_with_len 0 n) (λ k. None) q ∙ by (list_any (eqb (locale q)) (range_with_len 0 n)) (value_at cmp es q) ∙
        sym (value_at-pieces exact locale es (range_with_len 0 n) q) ∙ value_at-split exact locale n es q below
      where
        by : (b : Bool) (v : Option ℤ) → cond b (option_or v None) None ≡ cond b v None
        by true None = refl
        by true (Some v) = refl
        by false v = refl

    pub collected_is : (n size : ℕ) (ps : List (List (I × ℤ))) (m : BTreeMap I ℤ) → IsSplit cmp locale n size ps →
        IsFromIterResult cmp (flat_map (λ p. p) ps) m → m.entries ≡ merged cmp ps
    collected_is n size ps m u made =
        let es = merged cmp ps in
        let all = λ (q : I) (xs : List (List (I × ℤ))). update_all (eq_by_cmp cmp) (λ k. None) (flat_map (λ p. p) xs) q in
        let there = λ (q : I) (xs : List (List (I × ℤ))). value_at cmp (flat_map (λ p. p) xs) q in
        sym (merged_is total exact ps m.entries made.1 (λ q. ap (there q) u.pieces ∙ value_at-split exact locale n es q u.below ∙
        sym (made.0 q ∙ ap (all q) u.pieces ∙ collected_at n es q (merged-ascending total ps) u.below)))

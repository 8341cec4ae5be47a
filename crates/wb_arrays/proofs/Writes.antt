-- A write at an index touches the piece of its locale alone.
use Rattle.std.proofs.Common.{◌≡◌, ℕ, zero, suc, ◌+◌, ◌<◌, ℤ, Bool, true, false, cond, eqb, List, [], ◌∷◌, map, length, get_or, set, is_some, refl, sym, ap}
use Rattle.std.proofs.Common.{◌∙◌, arith, eq-eqb}
use Rattle.std.specs.declared.cmp.Ordering.{Ordering}
use Rattle.std.specs.declared.cmp.Ordering.TheVariants.{Equal}
use Rattle.std.specs.Ordering.{is_eq}
use Rattle.std.specs.FinMap.{IsAntisymmetric}
use Rattle.std.specs.List.{range_with_len, list_any}
use Rattle.std.specs.Map.{lookup, set_value}
use Rattle.std.specs.Cmp.{IsTotalOrder}
use Rattle.std.proofs.lemmas.Map.{keys-set_value, length-set_value}
use Rattle.std.proofs.lemmas.Map.Made.{is_some-lookup}
use Rattle.std.specs.BTreeMap.{is_at}
use Rattle.std.proofs.lemmas.Bool.{true≢false}
use Rattle.std.proofs.lemmas.Bool.Decides.{nat_tests}
use Rattle.wb_arrays.specs.Elements.{value_at}
use Rattle.wb_arrays.specs.Pieces.{piece_of, pieces_of, LieBelow, merged, IsSplit}
use Rattle.wb_arrays.proofs.Splits.{value_at-piece, piece_count, piece_at, merged-ascending, piece-ascending, is_split}
use Rattle.wb_arrays.proofs.PiecePlaces.{written}

-- a write changes no index
pub is_some-set_value : {I : Type 0} (test other : I → Bool) (es : List (I × ℤ)) (v : ℤ) →
    is_some (lookup test (set_value other es v)) ≡ is_some (lookup test es)
is_some-set_value test other es v =
    is_some-lookup test (set_value other es v) ∙ ap (list_any test) (keys-set_value other es v) ∙ sym (is_some-lookup test es)

module _ {I : Type 0} (cmp : I → I → Ordering) (exact : IsAntisymmetric cmp) (locale : I → ℕ) where
  -- a look-up in the piece of the index's own locale
  pub value_at-own : (es : List (I × ℤ)) (q : I) → value_at cmp (piece_of locale es (locale q)) q ≡ value_at cmp es q
  value_at-own es q = value_at-piece cmp exact locale es (locale q) q ∙ rw (eq-eqb (locale q) (locale q) refl) refl

  same_index : (q k : I) → is_eq (cmp q k) ≡ true → q ≡ k
  same_index q k h = exact q k (equal _ h)
    where
      equal : (o : Ordering) → is_eq o ≡ true → o ≡ Equal
      equal o g = grind arith

  module _ (q : I) (v : ℤ) where
    piece_of-set_value : (es : List (I × ℤ)) (l : ℕ) → piece_of locale (set_value (is_at (cmp q)) es v) l ≡ cond (eqb (locale q) l)
        (set_value (is_at (cmp q)) (piece_of locale es l) v) (piece_of locale es l)
    piece_of-set_value [] l = either (eqb (locale q) l)
      where
        either : (b : Bool) → [] ≡ cond b (set_value (is_at (cmp q)) [] v) []
        either true = refl
        either false = refl
    piece_of-set_value (e ∷ es) l =
        outside (is_eq (cmp q e.0)) ∙ by (is_eq (cmp q e.0)) (eqb (locale e.0) l) (eqb (locale q) l) refl
        (λ h. ap (λ k. eqb (locale k) l) (sym (same_index q e.0 h))) (piece_of-set_value es l)
      where
        outside : (c : Bool) → piece_of locale (cond c ((e.0, v) ∷ es) (e ∷ set_value (is_at (cmp q)) es v)) l ≡ cond c
            (cond (eqb (locale e.0) l) ((e.0, v) ∷ piece_of locale es l) (piece_of locale es l))
            (cond (eqb (locale e.0) l) (e ∷ piece_of locale (set_value (is_at (cmp q)) es v) l) (piece_of locale (set_value (is_at (cmp q)) es v) l))
        outside true = refl
        outside false = refl

        inner : (c : Bool) → is_eq (cmp q e.0) ≡ c → set_value (is_at (cmp q)) (e ∷ piece_of locale es l) v ≡ cond c ((e.0, v) ∷ piece_of locale es l)
            (e ∷ set_value (is_at (cmp q)) (piece_of locale es l) v)
        inner c h = ap (λ t. cond t ((e.0, v) ∷ piece_of locale es l) (e ∷ set_value (is_at (cmp q)) (piece_of locale es l) v)) h

        by : (c b h : Bool) → is_eq (cmp q e.0) ≡ c → (c ≡ true → b ≡ h) →
            piece_of locale (set_value (is_at (cmp q)) es v) l ≡ cond h (set_value (is_at (cmp q)) (piece_of locale es l) v) (piece_of locale es l) →
            cond c (cond b ((e.0, v) ∷ piece_of locale es l) (piece_of locale es l))
            (cond b (e ∷ piece_of locale (set_value (is_at (cmp q)) es v) l) (piece_of locale (set_value (is_at (cmp q)) es v) l)) ≡ cond h
            (set_value (is_at (cmp q)) (cond b (e ∷ piece_of locale es l) (piece_of locale es l)) v)
            (cond b (e ∷ piece_of locale es l) (piece_of locale es l))
        by true true true at same again = sym (inner true at)
        by true true false at same again = absurd (true≢false (same refl))
        by true false true at same again = absurd (true≢false (sym (same refl)))
        by true false false at same again = refl
        by false true true at same again = ap (λ xs. e ∷ xs) again ∙ sym (inner false at)
        by false true false at same again = ap (λ xs. e ∷ xs) again
        by false false true at same again = again
        by false false false at same again = again

    pub pieces_of-set_value : (es : List (I × ℤ)) (n : ℕ) → pieces_of locale n (set_value (is_at (cmp q)) es v) ≡ set (pieces_of locale n es) (locale q)
        (set_value (is_at (cmp q)) (piece_of locale es (locale q)) v)
    pieces_of-set_value es n = go 0 n (locale q) (add-zero-left (locale q))
      where
        add-zero-left : (k : ℕ) → 0 + k ≡ k
        add-zero-left k = omega arith

        late : (a m : ℕ) → locale q < a → map (piece_of locale (set_value (is_at (cmp q)) es v)) (range_with_len a m) ≡ map (piece_of locale es)
            (range_with_len a m)
        late a zero h = refl
        late a (suc m) h =
            let none : eqb (locale q) a ≡ false = grind (arith, nat_tests) in
            let head : piece_of locale (set_value (is_at (cmp q)) es v) a ≡ piece_of locale es a = piece_of-set_value es a ∙ rw none refl in
            let tail = late (a + 1) m (omega arith) in
            λ i. head i ∷ tail i

        go : (a m i : ℕ) → a + i ≡ locale q → map (piece_of locale (set_value (is_at (cmp q)) es v)) (range_with_len a m) ≡ set
            (map (piece_of locale es) (range_with_len a m)) i (set_value (is_at (cmp q)) (piece_of locale es (locale q)) v)
        go a zero zero h = refl
        go a zero (suc i) h = refl
        go a (suc m) zero h =
            let here : locale q ≡ a = omega arith in
            let same : eqb (locale q) a ≡ true = eq-eqb (locale q) a here in
            let head : piece_of locale (set_value (is_at (cmp q)) es v) a ≡ set_value (is_at (cmp q)) (piece_of locale es (locale q)) v =
            piece_of-set_value es a ∙ rw (same, here) refl in
            let tail = late (a + 1) m (omega arith) in
            λ j. head j ∷ tail j
        go a (suc m) (suc i) h =
            let none : eqb (locale q) a ≡ false = grind (arith, nat_tests) in
            let head : piece_of locale (set_value (is_at (cmp q)) es v) a ≡ piece_of locale es a = piece_of-set_value es a ∙ rw none refl in
            let tail = go (a + 1) m i (omega arith) in
            λ j. head j ∷ tail j

    pub below-set_value : (es : List (I × ℤ)) (n : ℕ) → LieBelow locale n es → LieBelow locale n (set_value (is_at (cmp q)) es v)
    below-set_value [] n h = h
    below-set_value (e ∷ es) n h = by (is_eq (cmp q e.0)) (below-set_value es n h.1)
      where
        by : (b : Bool) → LieBelow locale n (set_value (is_at (cmp q)) es v) → LieBelow locale n (cond b ((e.0, v) ∷ es) (e ∷ set_value (is_at (cmp q)) es v))
        by true again = (h.0, h.1)
        by false again = (h.0, again)

    -- the pieces after a pair was replaced in its piece
    pub written_split : IsTotalOrder cmp → (n size l place : ℕ) (ps qs : List (List (I × ℤ))) → IsSplit cmp locale n size ps → l < n → l ≡ locale q →
        place < length (piece_of locale (merged cmp ps) l) → ((d : I × ℤ) → (get_or (piece_of locale (merged cmp ps) l) place d).0 ≡ q) →
        qs ≡ set ps l (set (get_or ps l []) place (q, v)) → (merged cmp qs ≡ set_value (is_at (cmp q)) (merged cmp ps) v) × IsSplit cmp locale n size qs
    written_split total n size l place ps qs u within own at is new =
        let es = merged cmp ps in
        let t = is_at (cmp q) in
        let many : length ps ≡ n = piece_count cmp locale n size ps u in
        let read : get_or ps l [] ≡ piece_of locale es l = (piece_at cmp locale n size ps l u (omega arith)).1 in
        let sorted = merged-ascending cmp total ps in
        let put = written cmp total exact (piece_of locale es l) place q v (piece-ascending cmp locale es l sorted) at is in
        let one = new ∙ ap (λ xs. set ps l (set xs place (q, v))) read ∙ ap (λ xs. set ps l xs) put in
        let two = ap (λ xs. set xs l (set_value t (piece_of locale es l) v)) u.pieces in
        let three = ap (λ (k : ℕ). set (pieces_of locale n es) k (set_value t (piece_of locale es k) v)) own in
        let are : qs ≡ pieces_of locale n (set_value t es v) = one ∙ two ∙ three ∙ sym (pieces_of-set_value es n) in
        is_split cmp total exact locale n size qs (set_value t es v) (rw (keys-set_value t es v) sorted) (below-set_value es n u.below) are
        (u.count ∙ sym (length-set_value t es v))

-- The shares of all workers, side by side, are the pieces of all locales.
use Rattle.std.proofs.Common.{◌≡◌, ℕ, zero, suc, ◌+◌, ◌-◌, ◌*◌, ◌/◌, ◌<◌, ◌≤◌, ℤ, List, [], ◌∷◌, ◌++◌, length, get_or, Result, Ok, Err, IsOk, IfOk, OnOk, refl}
use Rattle.std.proofs.Common.{ap, ◌∙◌, arith, add-zero}
use Rattle.std.specs.declared.vec.Vec.{Vec}
use Rattle.std.specs.List.{All}
use Rattle.std.proofs.lemmas.List.Elements.{All-get_or}
use Rattle.std.proofs.Math.Nat.{mul-le-mul_right}
use Rattle.wb_arrays.specs.Pieces.{piece_of, pieces_from, pieces_of, lists_of}
use Rattle.wb_arrays.specs.Shares.{first_locale, share_of, lists_in, lists_joined}

pub first_locale-le : (l n w : ℕ) → 0 < n → w ≤ n → first_locale l n w ≤ l
first_locale-le l n w p h = omega (arith, mul-le-mul_right (l / n) h)

one_more : (w q : ℕ) → (w + 1) * q ≡ w * q + q
one_more w q = omega arith

pub first_locale-rises : (l n w : ℕ) → first_locale l n w ≤ first_locale l n (w + 1)
first_locale-rises l n w = omega (arith, one_more w (l / n))

first_locale-none : (l n : ℕ) → first_locale l n 0 ≡ 0
first_locale-none l n = omega arith

first_locale-all : (l n : ℕ) → 0 < n → first_locale l n n ≡ l
first_locale-all l n p = omega arith

module _ {I : Type 0} (locale : I → ℕ) (es : List (I × ℤ)) where
  side_by_side : (a m k : ℕ) → pieces_from locale es a m ++ pieces_from locale es (a + m) k ≡ pieces_from locale es a (m + k)
  side_by_side a zero k = let e : a + 0 ≡ a = omega arith in let f : 0 + k ≡ k = omega arith in rw (e, f) refl
  side_by_side a (suc m) k =
      let e : a + suc m ≡ (a + 1) + m = omega arith in
      let f : suc m + k ≡ suc (m + k) = omega arith in
      rw (e, f) (ap (λ xs. piece_of locale es a ∷ xs) (side_by_side (a + 1) m k))

  next_to : (a b c : ℕ) → a ≤ b → b ≤ c → pieces_from locale es a (b - a) ++ pieces_from locale es b (c - b) ≡ pieces_from locale es a (c - a)
  next_to a b c h k =
      let e : a + (b - a) ≡ b = omega arith in
      let f : (b - a) + (c - b) ≡ c - a = omega arith in
      let g = side_by_side a (b - a) (c - b) in
      rw (e, f) at g

  module _ {E Z : Type 0} (l n : ℕ) (some : 0 < n) where
    from_worker : (w : ℕ) (rest : List (Result (Vec (Vec (I × ℤ) Z) Z) E)) → w + length rest ≡ n →
        ((i : ℕ) (d : Result (Vec (Vec (I × ℤ) Z) Z) E) → i < length rest → lists_in (get_or rest i d) ≡ share_of locale es l n (w + i)) →
        lists_joined rest ≡ pieces_from locale es (first_locale l n w) (first_locale l n n - first_locale l n w)
    from_worker w [] e h =
        let last : w ≡ n = omega arith in
        let none : first_locale l n n - first_locale l n w ≡ 0 = rw last (omega arith) in
        rw none refl
    from_worker w (r ∷ rest) e h =
        let here : lists_in r ≡ share_of locale es l n w = h 0 r (omega arith) ∙ ap (share_of locale es l n) (add-zero w) in
        let again = from_worker (w + 1) rest (omega arith) (λ i d k. let next : w + suc i ≡ (w + 1) + i = omega arith in h (suc i) d (omega arith) ∙
        ap (share_of locale es l n) next) in
        rw (here, again) (next_to (first_locale l n w) (first_locale l n (w + 1)) (first_locale l n n) (first_locale-rises l n w)
        (rw (first_locale-all l n some) (first_locale-le l n (w + 1) some (omega arith))))

    pub shares_joined : (shares : List (Result (Vec (Vec (I × ℤ) Z) Z) E)) → length shares ≡ n →
        ((i : ℕ) (d : Result (Vec (Vec (I × ℤ) Z) Z) E) → i < n → IsOk (get_or shares i d) ×
        IfOk (get_or shares i d) (λ v. lists_of v.items ≡ share_of locale es l n i)) → lists_joined shares ≡ pieces_of locale l es
    shares_joined shares e h =
        from_worker 0 shares (omega arith) (λ i d k. let z : 0 + i ≡ i = omega arith in let f = h i d (omega arith) in rw z (by (get_or shares i d) i f.0 f.1))
        ∙ all
      where
        by : (r : Result (Vec (Vec (I × ℤ) Z) Z) E) (i : ℕ) → IsOk r → IfOk r (λ v. lists_of v.items ≡ share_of locale es l n i) →
            lists_in r ≡ share_of locale es l n i
        by (Ok v) i o f = f
        by (Err x) i o f = absurd (cc)

        all : pieces_from locale es (first_locale l n 0) (first_locale l n n - first_locale l n 0) ≡ pieces_of locale l es
        all = let f : l - 0 ≡ l = omega arith in rw (first_locale-none l n, first_locale-all l n some, f) refl

    pub joined_pieces : (r : Result (Vec (Vec (I × ℤ) Z) Z) E) (shares : List (Result (Vec (Vec (I × ℤ) Z) Z) E)) → length shares ≡ n →
        IfOk r (λ v. lists_of v.items ≡ lists_joined shares) → OnOk r (All IsOk shares) →
        ((i : ℕ) (d : Result (Vec (Vec (I × ℤ) Z) Z) E) → i < n → IfOk (get_or shares i d) (λ v. lists_of v.items ≡ share_of locale es l n i)) →
        IfOk r (λ v. lists_of v.items ≡ pieces_of locale l es)
    joined_pieces (Ok v) shares e h o each = h ∙ shares_joined shares e (λ i d k. (All-get_or IsOk shares i d (omega arith) o, each i d k))
    joined_pieces (Err x) shares e h o each = tt

    pub joined_below : (B : Type 0) (r : Result (Vec (Vec (I × ℤ) Z) Z) E) (shares : List (Result (Vec (Vec (I × ℤ) Z) Z) E)) → length shares ≡ n →
        OnOk r (All IsOk shares) → ((i : ℕ) (d : Result (Vec (Vec (I × ℤ) Z) Z) E) → i < n → OnOk (get_or shares i d) B) → OnOk r B
    joined_below B (Ok v) [] e o each = absurd (omega arith)
    joined_below B (Ok v) (s ∷ shares) e o each = by s (All-get_or IsOk (s ∷ shares) 0 s (omega arith) o) (each 0 s (omega arith))
      where
        by : (x : Result (Vec (Vec (I × ℤ) Z) Z) E) → IsOk x → OnOk x B → B
        by (Ok w) g b = b
        by (Err y) g b = absurd (cc)
    joined_below B (Err x) shares e o each = tt

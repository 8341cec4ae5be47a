-- Pairs go to their pieces one after another.
use Rattle.std.proofs.Common.{◌≡◌, ◌≢◌, ℕ, zero, suc, ◌+◌, ◌<◌, ℤ, Bool, true, false, cond, eqb, List, [], ◌∷◌, ◌++◌, map, length, get_or, set, inl}
use Rattle.std.proofs.Common.{inr, ◌⊎◌, refl, sym, ap, ◌∙◌, arith, eq-eqb, add-zero}
use Rattle.std.specs.declared.vec.Vec.{Vec}
use Rattle.std.specs.List.{range_with_len}
use Rattle.std.proofs.lemmas.Bool.{true≢false, cases_eq}
use Rattle.std.proofs.lemmas.Bool.Decides.{nat_tests}
use Rattle.std.proofs.lemmas.List.{map-set, get_or-map, length-map, length-set, get_or-set_same, get_or-set_other, append_assoc, append-nil}
use Rattle.wb_arrays.specs.Pieces.{piece_of, pieces_from, lists_of, LieBelow}

module _ {I Z : Type 0} where
  pub pushed_at : (vs : List (Vec (I × ℤ) Z)) (i : ℕ) (v w : Vec (I × ℤ) Z) (e : I × ℤ) → i < length vs → v ≡ get_or vs i v → w.items ≡ v.items ++ e ∷ [] →
      lists_of (set vs i w) ≡ set (lists_of vs) i (get_or (lists_of vs) i [] ++ e ∷ [])
  pushed_at vs i v w e l is pushed =
      let items = λ (x : Vec (I × ℤ) Z). x.items in
      let read : get_or (lists_of vs) i [] ≡ v.items = get_or-map items vs i v [] l ∙ ap items (sym is) in
      map-set items vs i w ∙ ap (λ xs. set (lists_of vs) i xs) (pushed ∙ ap (λ xs. xs ++ e ∷ []) (sym read))

  pub read_at : (vs : List (Vec (I × ℤ) Z)) (i : ℕ) (v : Vec (I × ℤ) Z) → i < length vs → v ≡ get_or vs i v → v.items ≡ get_or (lists_of vs) i []
  read_at vs i v l is =
      let items = λ (x : Vec (I × ℤ) Z). x.items in
      ap items is ∙ sym (get_or-map items vs i v [] l)

  pub written_at : (vs : List (Vec (I × ℤ) Z)) (i p : ℕ) (v w : Vec (I × ℤ) Z) (e : I × ℤ) → i < length vs → v ≡ get_or vs i v → w.items ≡ set v.items p e →
      lists_of (set vs i w) ≡ set (lists_of vs) i (set (get_or (lists_of vs) i []) p e)
  written_at vs i p v w e l is written =
      let items = λ (x : Vec (I × ℤ) Z). x.items in
      map-set items vs i w ∙ ap (λ xs. set (lists_of vs) i xs) (written ∙ ap (λ xs. set xs p e) (read_at vs i v l is))

  pub length-lists_of : (vs : List (Vec (I × ℤ) Z)) → length (lists_of vs) ≡ length vs
  length-lists_of vs = length-map vs (λ (x : Vec (I × ℤ) Z). x.items)

module _ {I : Type 0} (locale : I → ℕ) (n first count : ℕ) (whole : List (I × ℤ)) where
  -- the pieces have what was passed of the array, and what is left goes behind it
  pub record IsUnderway (rest : List (I × ℤ)) (ps : List (List (I × ℤ))) : Type 0 where
    pub len : length ps ≡ count
    pub so_far : (k : ℕ) → k < count → get_or ps k [] ++ piece_of locale rest (first + k) ≡ piece_of locale whole (first + k)
    pub below : LieBelow locale n rest → LieBelow locale n whole

  pub pass : (e : I × ℤ) (rest : List (I × ℤ)) (ps : List (List (I × ℤ))) → locale e.0 < n → ((k : ℕ) → k < count → first + k ≡ locale e.0 → ⊥) →
      IsUnderway (e ∷ rest) ps → IsUnderway rest ps
  pass e rest ps l apart u = record {
    len = u.len;
    so_far = λ k h. by k (eqb (locale e.0) (first + k)) refl h (u.so_far k h);
    below = λ h. u.below (l, h);
  }
    where
      by : (k : ℕ) (b : Bool) → eqb (locale e.0) (first + k) ≡ b → k < count →
          get_or ps k [] ++ cond b (e ∷ piece_of locale rest (first + k)) (piece_of locale rest (first + k)) ≡ piece_of locale whole (first + k) →
          get_or ps k [] ++ piece_of locale rest (first + k) ≡ piece_of locale whole (first + k)
      by k true g h f = absurd (apart k h (grind (arith, nat_tests)))
      by k false g h f = f

  pub put : (e : I × ℤ) (rest : List (I × ℤ)) (ps : List (List (I × ℤ))) (place : ℕ) → locale e.0 < n → first + place ≡ locale e.0 → place < count →
      IsUnderway (e ∷ rest) ps → IsUnderway rest (set ps place (get_or ps place [] ++ e ∷ []))
  put e rest ps place l is h u = record {
    len = length-set ps place _ ∙ u.len;
    so_far = λ k g. by k (cases_eq k place) g (u.so_far k g);
    below = λ f. u.below (l, f);
  }
    where
      here : (b : Bool) → b ≡ true → (xs ys : List (I × ℤ)) → (xs ++ e ∷ []) ++ ys ≡ xs ++ cond b (e ∷ ys) ys
      here true g xs ys = append_assoc xs (e ∷ []) ys
      here false g xs ys = absurd (true≢false (sym g))

      there : (b : Bool) → b ≡ false → (xs ys : List (I × ℤ)) → xs ++ ys ≡ xs ++ cond b (e ∷ ys) ys
      there true g xs ys = absurd (true≢false g)
      there false g xs ys = refl

      by : (k : ℕ) → (k ≡ place) ⊎ (k ≢ place) → k < count → get_or ps k [] ++ piece_of locale (e ∷ rest) (first + k) ≡ piece_of locale whole (first + k) →
          get_or (set ps place (get_or ps place [] ++ e ∷ [])) k [] ++ piece_of locale rest (first + k) ≡ piece_of locale whole (first + k)
      by k (inl g) m f = rw (g, get_or-set_same ps place (get_or ps place [] ++ e ∷ []) [] (omega (arith, u.len)))
          (here (eqb (locale e.0) (first + place)) (eq-eqb (locale e.0) (first + place) (sym is)) (get_or ps place []) (piece_of locale rest (first + place)) ∙
          u.so_far place h)
      by k (inr g) m f = rw (get_or-set_other ps place k (get_or ps place [] ++ e ∷ []) [] g)
          (there (eqb (locale e.0) (first + k)) (other (eqb (locale e.0) (first + k)) refl) (get_or ps k []) (piece_of locale rest (first + k)) ∙ f)
        where
          other : (b : Bool) → eqb (locale e.0) (first + k) ≡ b → b ≡ false
          other true c = absurd (g (grind (arith, nat_tests)))
          other false c = refl

  pub done : (ps : List (List (I × ℤ))) → IsUnderway [] ps → ps ≡ pieces_from locale whole first count
  done ps u = listed ps first count u.len (λ k l. sym (append-nil (get_or ps k [])) ∙ u.so_far k l)
    where
      listed : (xs : List (List (I × ℤ))) (a m : ℕ) → length xs ≡ m → ((k : ℕ) → k < m → get_or xs k [] ≡ piece_of locale whole (a + k)) →
          xs ≡ map (piece_of locale whole) (range_with_len a m)
      listed [] a zero e h = refl
      listed [] a (suc m) e h = absurd (omega arith)
      listed (x ∷ xs) a zero e h = absurd (omega arith)
      listed (x ∷ xs) a (suc m) e h =
          let head : x ≡ piece_of locale whole a = h 0 (omega arith) ∙ ap (piece_of locale whole) (add-zero a) in
          let tail : xs ≡ map (piece_of locale whole) (range_with_len (a + 1) m) =
          listed xs (a + 1) m (omega arith) (λ k l. let next : a + suc k ≡ (a + 1) + k = omega arith in h (suc k) (omega arith) ∙
          ap (piece_of locale whole) next) in
          λ i. head i ∷ tail i

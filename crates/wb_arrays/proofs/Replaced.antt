-- All numbers of an array are replaced, where one locale has it.
use Rattle.std.proofs.Common.{◌≡◌, ℕ, zero, suc, ◌+◌, ◌<◌, ℤ, List, [], ◌∷◌, ◌++◌, map, length, take, drop, get_or, set, add-one, refl}
use Rattle.std.proofs.Common.{sym, ap, subst, ◌∙◌, arith}
use Rattle.std.specs.declared.cmp.Ordering.{Ordering}
use Rattle.std.specs.declared.vec.Vec.{Vec}
use Rattle.std.specs.Cmp.{IsTotalOrder}
use Rattle.std.specs.FinMap.{IsAntisymmetric}
use Rattle.std.specs.List.{zip}
use Rattle.std.specs.List.Sorted.{IsStrictlySortedBy}
use Rattle.std.specs.Map.{keys_of}
use Rattle.std.proofs.lemmas.List.{map-set}
use Rattle.std.proofs.lemmas.Map.Made.{keys_of-zip}
use Rattle.wb_arrays.specs.Pieces.{pieces_of, lists_of, LieBelow, merged, IsSplit}
use Rattle.wb_arrays.proofs.Splits.{all_on_one, is_split, merged-ascending}

pub within : (ns : List ℤ) (k : ℕ) (d e : ℤ) → k < length ns → get_or ns k d ≡ get_or ns k e
within [] k d e low = absurd (omega (arith, low))
within (n ∷ ns) zero d e low = refl
within (n ∷ ns) (suc k) d e low = within ns k d e (omega (arith, low))

module _ {I : Type 0} where
  pub keys-filled : (es : List (I × ℤ)) (n : ℤ) → keys_of (map (λ e. (e.0, n)) es) ≡ keys_of es
  keys-filled [] n = refl
  keys-filled (e ∷ es) n = ap (λ ks. e.0 ∷ ks) (keys-filled es n)

  -- one number more of those that are replaced by one
  fill_next : (es : List (I × ℤ)) (n : ℤ) (k : ℕ) (d : I × ℤ) → k < length es →
      set (map (λ e. (e.0, n)) (take k es) ++ drop k es) k ((get_or (map (λ e. (e.0, n)) (take k es) ++ drop k es) k d).0, n) ≡
      map (λ e. (e.0, n)) (take (suc k) es) ++ drop (suc k) es
  fill_next [] n k d low = absurd (omega (arith, low))
  fill_next (e ∷ es) n zero d low = refl
  fill_next (e ∷ es) n (suc k) d low = ap (λ xs. (e.0, n) ∷ xs) (fill_next es n k d (omega (arith, low)))

  pub fill_more : (es : List (I × ℤ)) (n : ℤ) (k : ℕ) (d : I × ℤ) → k < length es →
      set (map (λ e. (e.0, n)) (take k es) ++ drop k es) k ((get_or (map (λ e. (e.0, n)) (take k es) ++ drop k es) k d).0, n) ≡
      map (λ e. (e.0, n)) (take (k + 1) es) ++ drop (k + 1) es
  fill_more es n k d low = rw add-one (fill_next es n k d low)

  -- one number more of those that are replaced by others
  set_next : (es : List (I × ℤ)) (ns : List ℤ) (k : ℕ) (d : I × ℤ) (n : ℤ) → k < length es → length es ≡ length ns → n ≡ get_or ns k n →
      set (zip (keys_of (take k es)) (take k ns) ++ drop k es) k ((get_or (zip (keys_of (take k es)) (take k ns) ++ drop k es) k d).0, n) ≡
      zip (keys_of (take (suc k) es)) (take (suc k) ns) ++ drop (suc k) es
  set_next [] ns k d n low same is = absurd (omega (arith, low))
  set_next (e ∷ es) [] k d n low same is = absurd (omega (arith, same))
  set_next (e ∷ es) (m ∷ ns) zero d n low same is = ap (λ v. (e.0, v) ∷ es) is
  set_next (e ∷ es) (m ∷ ns) (suc k) d n low same is =
      ap (λ xs. (e.0, m) ∷ xs) (set_next es ns k d n (omega (arith, low)) (omega (arith, same)) is)

  pub set_more : (es : List (I × ℤ)) (ns : List ℤ) (k : ℕ) (d : I × ℤ) (n : ℤ) → k < length es → length es ≡ length ns → n ≡ get_or ns k n →
      set (zip (keys_of (take k es)) (take k ns) ++ drop k es) k ((get_or (zip (keys_of (take k es)) (take k ns) ++ drop k es) k d).0, n) ≡
      zip (keys_of (take (k + 1) es)) (take (k + 1) ns) ++ drop (k + 1) es
  set_more es ns k d n low same is = rw add-one (set_next es ns k d n low same is)

  below-keys : (locale : I → ℕ) (n : ℕ) (es fs : List (I × ℤ)) → keys_of fs ≡ keys_of es → LieBelow locale n es → LieBelow locale n fs
  below-keys locale n [] [] same below = tt
  below-keys locale n [] (f ∷ fs) same below = cc
  below-keys locale n (e ∷ es) [] same below = tt
  below-keys locale n (e ∷ es) (f ∷ fs) same below =
      let here : f.0 ≡ e.0 = cc in
      let rest : keys_of fs ≡ keys_of es = cc in
      (subst (λ (k : I). locale k < n) (sym here) below.0, below-keys locale n es fs rest below.1)

  count-keys : (es fs : List (I × ℤ)) → keys_of fs ≡ keys_of es → length fs ≡ length es
  count-keys [] [] same = refl
  count-keys [] (f ∷ fs) same = cc
  count-keys (e ∷ es) [] same = cc
  count-keys (e ∷ es) (f ∷ fs) same = let rest : keys_of fs ≡ keys_of es = cc in ap suc (count-keys es fs rest)

  keys_count : (es : List (I × ℤ)) → length (keys_of es) ≡ length es
  keys_count [] = refl
  keys_count (e ∷ es) = ap suc (keys_count es)

  pub keys-numbered : (es : List (I × ℤ)) (ns : List ℤ) → length es ≡ length ns → keys_of (zip (keys_of es) ns) ≡ keys_of es
  keys-numbered es ns many = keys_of-zip (keys_of es) ns (sym many ∙ sym (keys_count es))

  pub put_first : {Z : Type 0} (vs : List (Vec (I × ℤ) Z)) (v w : Vec (I × ℤ) Z) (es : List (I × ℤ)) → v ≡ get_or vs 0 v → w.items ≡ es →
      lists_of (set vs 0 w) ≡ set (lists_of vs) 0 es
  put_first vs v w es is items = map-set (λ (x : Vec (I × ℤ) _). x.items) vs 0 w ∙ ap (λ xs. set (lists_of vs) 0 xs) items

  module _ (cmp : I → I → Ordering) (locale : I → ℕ) (n size : ℕ) (ps : List (List (I × ℤ))) (one : n ≡ 1) (u : IsSplit cmp locale n size ps) where
    below : LieBelow locale 1 (merged cmp ps)
    below = subst (λ (k : ℕ). LieBelow locale k (merged cmp ps)) one u.below

    -- the one piece is the array
    pub only : ps ≡ merged cmp ps ∷ []
    only = u.pieces ∙ ap (λ (k : ℕ). pieces_of locale k (merged cmp ps)) one ∙ ap (λ es. es ∷ []) (all_on_one locale (merged cmp ps) below)

    pub some_piece : 0 < length ps
    some_piece = omega (arith, ap length only)

    pub first_is : get_or ps 0 [] ≡ merged cmp ps
    first_is = ap (λ qs. get_or qs 0 []) only

    -- other numbers at the same indices
    pub replaced : IsTotalOrder cmp → IsAntisymmetric cmp → (qs : List (List (I × ℤ))) (es : List (I × ℤ)) → keys_of es ≡ keys_of (merged cmp ps) →
        qs ≡ set ps 0 es → (merged cmp qs ≡ es) × IsSplit cmp locale n size qs
    replaced total exact qs es same is =
        let low = below-keys locale 1 (merged cmp ps) es same below in
        let are : qs ≡ pieces_of locale n es = is ∙ ap (λ xs. set xs 0 es) only ∙ ap (λ xs. xs ∷ []) (sym (all_on_one locale es low))
        ∙ ap (λ (k : ℕ). pieces_of locale k es) (sym one) in
        is_split cmp total exact locale n size qs es
        (subst (λ (ks : List I). IsStrictlySortedBy cmp ks) (sym same) (merged-ascending cmp total ps))
        (subst (λ (k : ℕ). LieBelow locale k es) (sym one) low) are (u.count ∙ sym (count-keys (merged cmp ps) es same))

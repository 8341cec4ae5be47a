-- Elements beside the indices that they may stand at.
use Rattle.std.proofs.Common.{◌≡◌, ℕ, zero, suc, ◌+◌, ◌<◌, ℤ, List, [], ◌∷◌, map, take, length, get_or, Some, refl, sym, ap, ◌∙◌, arith, add-one}
use Rattle.std.specs.List.{slice_get}
use Rattle.std.specs.Map.{keys_of}
use Rattle.wb_cells.specs.declared.values.index.Index.{Index}
use Rattle.wb_elements.specs.Piecewise.Indexed.{indexed}

-- one element more that stands where it should
pub one_key_more : {K V : Type 0} (es : List (K × V)) (ks : List K) (i : ℕ) (d : K × V) → i < length es → slice_get ks i ≡ Some (get_or es i d).0 →
    keys_of (take i es) ≡ take i ks → keys_of (take (i + 1) es) ≡ take (i + 1) ks
one_key_more {K} {V} es ks i d low here so_far =
    ap (λ n. keys_of (take n es)) (add-one i) ∙ next es ks i low here so_far ∙ ap (λ n. take n ks) (sym (add-one i))
  where
    next : (es : List (K × V)) (ks : List K) (i : ℕ) → i < length es → slice_get ks i ≡ Some (get_or es i d).0 →
        keys_of (take i es) ≡ take i ks → keys_of (take (suc i) es) ≡ take (suc i) ks
    next [] ks i low here so_far = absurd (omega (arith, low))
    next (e ∷ es) [] zero low here so_far = cc
    next (e ∷ es) [] (suc i) low here so_far = cc
    next (e ∷ es) (k ∷ ks) zero low here so_far = let same : k ≡ e.0 = cc in ap (λ x. x ∷ []) (sym same)
    next (e ∷ es) (k ∷ ks) (suc i) low here so_far =
        let first : e.0 ≡ k = cc in
        let rest : keys_of (take i es) ≡ take i ks = cc in
        (λ j. first j ∷ next es ks i (omega (arith, low)) here rest j)

-- the numbers are the same, however the indices are seen
pub numbers_indexed : {I : Type 0} (f : I → Index) (es : List (I × ℤ)) → map (λ e. e.1) (indexed f es) ≡ map (λ e. e.1) es
numbers_indexed f [] = refl
numbers_indexed f (e ∷ es) = ap (λ ns. e.1 ∷ ns) (numbers_indexed f es)

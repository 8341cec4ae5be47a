-- Lists that are kept in runs, when the last run becomes another one.
use Rattle.std.proofs.Common.{◌≡◌, ℕ, zero, suc, List, [], ◌∷◌, ◌++◌, length, set, get_or, append_assoc, refl, sym, ap, ◌∙◌, arith}
use Rattle.std.specs.List.{flat_map}

nothing_behind : {B : Type 0} (ys : List B) → ys ++ [] ≡ ys
nothing_behind [] = refl
nothing_behind (y ∷ ys) = ap (λ zs. y ∷ zs) (nothing_behind ys)

module _ {A B : Type 0} (f : A → List B) where
  -- xs came behind what it has
  pub last_more : (rs : List A) (s t : A) (xs : List B) (n : ℕ) → suc n ≡ length rs → s ≡ get_or rs n s → f t ≡ f s ++ xs →
      flat_map f (set rs n t) ≡ flat_map f rs ++ xs
  last_more [] s t xs n e is more = cc
  last_more (r ∷ []) s t xs zero e is more =
      let here : f t ≡ f r ++ xs = more ∙ ap (λ y. f y ++ xs) is in
      nothing_behind (f t) ∙ here ∙ ap (λ ys. ys ++ xs) (sym (nothing_behind (f r)))
  last_more (r ∷ []) s t xs (suc n) e is more = cc
  last_more (r ∷ (y ∷ rs)) s t xs zero e is more = cc
  last_more (r ∷ (y ∷ rs)) s t xs (suc n) e is more =
      let l : suc n ≡ length (y ∷ rs) = omega arith in
      ap (λ zs. f r ++ zs) (last_more (y ∷ rs) s t xs n l is more) ∙ sym (append_assoc (f r) (flat_map f (y ∷ rs)) xs)

  -- it has the same
  pub last_same : (rs : List A) (s t : A) (n : ℕ) → suc n ≡ length rs → s ≡ get_or rs n s → f t ≡ f s → flat_map f (set rs n t) ≡ flat_map f rs
  last_same rs s t n e is same = last_more rs s t [] n e is (same ∙ sym (nothing_behind (f s))) ∙ nothing_behind (flat_map f rs)

-- What lists of runs stand for, run by run.
use Rattle.std.proofs.Common.{◌≡◌, ℕ, ◌+◌, ◌<◌, List, [], ◌∷◌, ◌++◌, length, take, drop, get_or, take-suc, take-append-drop, add-one, append_assoc, refl, sym}
use Rattle.std.proofs.Common.{ap, ◌∙◌}
use Rattle.std.specs.List.{flat_map}

nothing_behind : {B : Type 0} (ys : List B) → ys ++ [] ≡ ys
nothing_behind [] = refl
nothing_behind (y ∷ ys) = ap (λ zs. y ∷ zs) (nothing_behind ys)

module _ {A B : Type 0} (f : A → List B) where
  all-append : (rs ss : List A) → flat_map f (rs ++ ss) ≡ flat_map f rs ++ flat_map f ss
  all-append [] ss = refl
  all-append (r ∷ rs) ss = ap (λ xs. f r ++ xs) (all-append rs ss) ∙ sym (append_assoc (f r) (flat_map f rs) (flat_map f ss))

  -- up to a run, and its own
  pub all_more : (rs : List A) (i : ℕ) (d : A) → i < length rs → flat_map f (take (i + 1) rs) ≡ flat_map f (take i rs) ++ f (get_or rs i d)
  all_more rs i d low =
      ap (λ j. flat_map f (take j rs)) (add-one i)
      ∙ ap (flat_map f) (take-suc rs i d low)
      ∙ all-append (take i rs) (get_or rs i d ∷ [])
      ∙ ap (λ ys. flat_map f (take i rs) ++ ys) (nothing_behind (f (get_or rs i d)))

  -- up to a run, and all others
  pub all_parts : (rs : List A) (i : ℕ) → flat_map f rs ≡ flat_map f (take i rs) ++ flat_map f (drop i rs)
  all_parts rs i = ap (flat_map f) (sym (take-append-drop i rs)) ∙ all-append (take i rs) (drop i rs)

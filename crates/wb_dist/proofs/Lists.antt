-- lists, one element after another
use Rattle.std.proofs.Common.{◌≡◌, ℕ, suc, ◌+◌, ◌<◌, List, ◌∷◌, length, drop, get_or, ap, ◌∙◌, arith}
use Rattle.std.proofs.Math.Seq.{drop-cons}

-- the first element that is left
pub drop_next : {X : Type 0} (xs : List X) (k : ℕ) (d : X) → k < length xs → drop k xs ≡ get_or xs k d ∷ drop (k + 1) xs
drop_next xs k d l = let f : suc k ≡ k + 1 = omega arith in drop-cons xs k d l ∙ ap (λ (n : ℕ). get_or xs k d ∷ drop n xs) f

-- a list in a buffer, and the fill behind it
use Rattle.std.proofs.Common.{◌≡◌, ℕ, ◌≤◌, ◌-◌, List, ◌++◌, length, take, drop, subst, replicate, sym, ◌∙◌, arith, length-append, length-drop}
use Rattle.std.proofs.Math.Seq.{drop-append_seam, take-append_seam}
use Rattle.std.proofs.lemmas.List.{drop-replicate, length-replicate}

-- what is behind the list is fill
pub behind : {X : Type 0} (n : ℕ) (fill : X) (s : List X) → drop (length s) (s ++ drop (length s) (replicate n fill)) ≡ replicate (n - length s) fill
behind n fill s = drop-append_seam s (drop (length s) (replicate n fill)) ∙ drop-replicate (length s) n fill

-- and the whole has n items
pub whole : {X : Type 0} (n : ℕ) (fill : X) (s : List X) → length s ≤ n → length (s ++ drop (length s) (replicate n fill)) ≡ n
whole {X} n fill s h = let behind_it : List X = replicate n fill in
    omega (arith, length-append s (drop (length s) behind_it), length-drop (length s) behind_it, length-replicate {A = X} n fill)

-- the front is the list again
pub front : {X : Type 0} (P : List X → Type 0) (n : ℕ) (fill : X) (s : List X) → P s → P (take (length s) (s ++ drop (length s) (replicate n fill)))
front P n fill s h = subst P (sym (take-append_seam s (drop (length s) (replicate n fill)))) h

-- What a set operation keeps of two sets.
use Rattle.std.specs.Prelude.{◌≡◌, Bool, true, false, List, [], ◌∷◌}
use Rattle.std.specs.List.{Contains}
use Rattle.wb_sets.specs.declared.merging.KeptKeys.{KeptKeys}

-- a key that a set operation keeps: of the first set alone, of both, of the second alone
pub data IsKept {K : Type 0} (kept : KeptKeys) (xs ys : List K) (k : K) : Type 0 where
  in_first : kept.first ≡ true → Contains xs k → (Contains ys k → ⊥) → IsKept kept xs ys k
  in_both : kept.both ≡ true → Contains xs k → Contains ys k → IsKept kept xs ys k
  in_second : kept.second ≡ true → (Contains xs k → ⊥) → Contains ys k → IsKept kept xs ys k

-- x before xs, where it is kept
abbrev pub with_if : {K : Type 0} → Bool → K → List K → List K
with_if true x xs = x ∷ xs
with_if false x xs = xs

-- xs where they are kept, else nothing
abbrev pub all_if : {K : Type 0} → Bool → List K → List K
all_if true xs = xs
all_if false xs = []

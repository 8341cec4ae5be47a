-- What is kept of what was done at a desk.
use Rattle.std.specs.Prelude.{◌≡◌, ◌⊎◌, ◌+◌, ◌-◌, ◌^◌, ◌<◌, ◌≤◌, ℕ, List, [], ◌∷◌, ◌++◌, length, drop, min}
use Rattle.wb_company.specs.declared.doings.Doing.{Doing}

-- so many are kept at most
abbrev pub most_kept : ℕ
most_kept = 10000

-- a number that is counted up to 2^64 - 1
abbrev pub counted : ℕ → ℕ
counted n = min n (2 ^ 64 - 1)

-- There is room for one more: so many of the earliest are gone, one where so many were kept as may be, and none where there were fewer.
pub record MakesRoom (was : List Doing) (number : ℕ) (kept : List Doing) : Type 0 where
  pub gone : List Doing
  pub all : was ≡ gone ++ kept
  pub counts : length gone ≡ number
  pub few : length was < most_kept → gone ≡ []
  pub many : most_kept ≤ length was → length gone ≡ 1

-- One more was done. The earliest are gone where there are too many, and the number of the first goes on by as many as are gone: one where
-- so many were kept as may be, none where there were fewer; or all, where there was no memory.
pub record Notes (was_first : ℕ) (was : List Doing) (d : Doing) (first : ℕ) (kept : List Doing) : Type 0 where
  pub gone : List Doing
  pub all : was ++ d ∷ [] ≡ gone ++ kept
  pub number : first ≡ counted (was_first + length gone)
  pub few : (kept ≡ []) ⊎ ((length was < most_kept → gone ≡ []) × (most_kept ≤ length was → length gone ≡ 1))

-- the number of the first that is told from a number on, and those that are
abbrev pub told_since : ℕ → List Doing → ℕ → ℕ × List Doing
told_since first kept from = (counted (first + min (from - first) (length kept)), drop (min (from - first) (length kept)) kept)

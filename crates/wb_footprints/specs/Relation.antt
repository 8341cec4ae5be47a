-- Numbers at places, as a test of a place and a number.
use Rattle.std.specs.Prelude.{◌≡◌, ℕ, ◌<◌, ◌≤◌, Bool, true, false, ◌&&◌, ◌==◌, List, [], ◌∷◌, Option, Some, None, ◌⊎◌, if◌then◌else◌}
use Rattle.wb_footprints.specs.Numbers.{Numbers, numbered}

-- The test `new` is `b` at the places that pass and the number, and else as `old`.
pub record Sets {A : Type 0} (old new : A → ℕ → Bool) (here : A → Bool) (number : ℕ) (b : Bool) : Type 0 where
  pub at : (a : A) (n : ℕ) → new a n ≡ (if here a && (number == n) then b else old a n)

-- the least number above another one that passes, if any does
abbrev pub IsLeastAfter : (ℕ → Bool) → ℕ → Option ℕ → Type 0
IsLeastAfter p after None = (n : ℕ) → after < n → p n ≡ false
IsLeastAfter p after (Some j) = (after < j) × (p j ≡ true) × ((n : ℕ) → after < n → n < j → p n ≡ false)

-- The tests are one but at the places that pass and the number.
pub record Stays {A : Type 0} (old new : A → ℕ → Bool) (here : A → Bool) (number : ℕ) : Type 0 where
  pub at : (a : A) (n : ℕ) → here a && (number == n) ≡ false → new a n ≡ old a n

-- The number is at none of the places that pass, and at none where it wasn't; the others are where they were.
pub record Clears {A : Type 0} (old new : A → ℕ → Bool) (here : A → Bool) (number : ℕ) : Type 0 where
  pub gone : (a : A) → here a ≡ true → new a number ≡ false
  pub fewer : (a : A) → old a number ≡ false → new a number ≡ false
  pub others : (a : A) (n : ℕ) → (number == n) ≡ false → new a n ≡ old a n

-- Those came into a set of numbers that are above another number and pass, and no others.
pub record JoinedAfter (old new : Numbers) (p : ℕ → Bool) (after : ℕ) : Type 0 where
  pub from : (n : ℕ) → numbered new n ≡ true → (numbered old n ≡ true) ⊎ ((after < n) × (p n ≡ true))
  pub stay : (n : ℕ) → numbered old n ≡ true → numbered new n ≡ true
  pub all : (n : ℕ) → after < n → p n ≡ true → numbered new n ≡ true

-- they ascend from above a number, each passes, and no other number from there on up to the last does
abbrev pub AreFirstAfter : (ℕ → Bool) → ℕ → List ℕ → ℕ → Type 0
AreFirstAfter p after [] last = last ≡ after
AreFirstAfter p after (j ∷ js) last = IsLeastAfter p after (Some j) × AreFirstAfter p j js last

-- all numbers above one that pass, ascending
abbrev pub AreAllAfter : (ℕ → Bool) → ℕ → List ℕ → Type 0
AreAllAfter p after [] = IsLeastAfter p after None
AreAllAfter p after (j ∷ js) = IsLeastAfter p after (Some j) × AreAllAfter p j js

-- the greatest number that passes, if any does
abbrev pub IsGreatest : (ℕ → Bool) → Option ℕ → Type 0
IsGreatest p None = (n : ℕ) → p n ≡ false
IsGreatest p (Some j) = (p j ≡ true) × ((n : ℕ) → p n ≡ true → n ≤ j)

-- the least number that passes, if any does
abbrev pub IsLeast : (ℕ → Bool) → Option ℕ → Type 0
IsLeast p None = (n : ℕ) → p n ≡ false
IsLeast p (Some j) = (p j ≡ true) × ((n : ℕ) → p n ≡ true → j ≤ n)

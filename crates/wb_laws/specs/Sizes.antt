-- How many elements a set has.
use Rattle.std.specs.Prelude.{◌≡◌, ◌↔◌, ℕ, Bool, true, List, length}
use Rattle.std.specs.List.{Contains}
use Rattle.wb_range.specs.Domain.{IsListedOnce}

-- the set has n elements: a list has each of them once, and nothing else
abbrev pub HasSize : {X : Type 0} → (X → Bool) → ℕ → Type 0
HasSize {X} set n = (xs : List X) × IsListedOnce xs × ((x : X) → Contains xs x ↔ (set x ≡ true)) × (n ≡ length xs)

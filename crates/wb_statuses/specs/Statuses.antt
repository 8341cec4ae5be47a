-- What an exit status tells of a fault, and of a text that was printed.
use Rattle.std.specs.Prelude.{◌≡◌, ◌⊎◌, ℕ, List, take}

-- input or output failed, or a growth was refused
abbrev pub IsFault : ℕ → Type 0
IsFault status = (status ≡ 3) ⊎ (status ≡ 4)

-- a text was printed, with status 0; or a front of it, at a fault
abbrev pub IsPrinted : List ℕ → ℕ → List ℕ → Type 0
IsPrinted whole status text = ((status ≡ 0) × (text ≡ whole)) ⊎ (IsFault status × ((count : ℕ) × (text ≡ take count whole)))

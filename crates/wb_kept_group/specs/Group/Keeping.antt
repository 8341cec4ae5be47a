-- What a keeper is, and what it does.
use Rattle.std.specs.Prelude.{◌≡◌, ◌⊎◌, Bool, MatchBool, List, ◌++◌}
use mathlib.Core.List.{IsPrefix}

-- A store, and whether it can be asked for more. The turns are those that it has, or, after it failed, all up to the last that it
-- was asked to add.
pub record Keeping (C T : Type 0) : Type 0 where
  pub store : T
  pub turns : List C
  pub is_open : Bool

-- some turns were to be added behind those that a store had; all of them begin this list, and this store is what is left
pub record IsLeft {T C : Type 0} (has : T → List C → Type 0) (leaves : T → T → List C → List C → Type 0) (all : List C) (store : T) : Type 0 where
  pub old : T
  pub before : List C
  pub turns : List C
  pub had : has old before
  pub left : leaves old store before turns
  pub within : IsPrefix (before ++ turns) all

-- while it is open its store has its turns; else it is what is left of a call that failed
abbrev pub IsKeeping : {T C : Type 0} → (T → List C → Type 0) → (T → T → List C → List C → Type 0) → Keeping C T → Type 0
IsKeeping has leaves k = MatchBool k.is_open (has k.store k.turns) (IsLeft has leaves k.turns k.store)

-- nothing was done; or turns were added to the store behind those that it has, as one batch
abbrev pub Goes : {T C : Type 0} → (T → T → List C → List C → Type 0) → Keeping C T → Keeping C T → Type 0
Goes leaves old new = (new ≡ old) ⊎ ((turns : List _) × (new.turns ≡ old.turns ++ turns) × leaves old.store new.store old.turns turns)

-- turns were to be added as one batch, and the store answered an error, which tells truly of that call
abbrev pub IsGivenUp : {T C E : Type 0} → (T → T → List C → List C → Type 0) → (E → T → T → Type 0) → T × List C → E → Type 0
IsGivenUp leaves tells old error = (store : _) × (turns : List _) × leaves old.0 store old.1 turns × tells error old.0 store

-- some store had these turns, and perhaps more behind them
abbrev pub WasHad : {T C : Type 0} → (T → List C → Type 0) → List C → Type 0
WasHad has turns = (store : _) × (behind : List _) × has store (turns ++ behind)

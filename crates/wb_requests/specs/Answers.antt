-- Answers of what takes memory.
use Rattle.std.specs.Prelude.{◌≡◌, ◌≢◌, Result, Ok, Err}
use Rattle.wb_edit.specs.declared.refusal.Refusal.{Refusal}
use Rattle.wb_edit.specs.declared.refusal.Refusal.TheVariants.{NoMemory}

-- the wanted answer, unless memory ran out
abbrev pub IsAnswer : {X : Type 0} → (wanted result : Result X Refusal) → Type 0
IsAnswer wanted (Ok x) = wanted ≡ Ok x
IsAnswer wanted (Err why) = why ≢ NoMemory → wanted ≡ Err why

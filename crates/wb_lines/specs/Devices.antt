-- What a read or a write tells.
use Rattle.std.specs.Prelude.{ℕ, Bool, true, false, not, ◌==◌, ◌&&◌, List, length, Result, Ok, Err}
use Rattle.wb_lines.specs.declared.source.ReadErr.{ReadErr}
use Rattle.wb_lines.specs.declared.source.ReadErr.TheVariants.{Interrupted, Failed}

-- a read failed, and no signal interrupted it
abbrev pub is_failed : Result ℕ ReadErr → Bool
is_failed (Ok n) = false
is_failed (Err Interrupted) = false
is_failed (Err Failed) = true

-- of these bytes a write failed or took nothing; where there are none, nothing is all
abbrev pub is_refused : {E : Type 0} → (bytes : List ℕ) → Result ℕ E → Bool
is_refused bytes (Ok n) = n == 0 && not (length bytes == 0)
is_refused bytes (Err e) = true

-- What a look for a port tells.
use Rattle.std.specs.Prelude.{Bool, true, false, Result, Ok, Err}
use Rattle.wb_visits.specs.declared.listening.BindErr.{BindErr}
use Rattle.wb_visits.specs.declared.listening.BindErr.TheVariants.{Failed, NoMemory}

-- no port could be had, and memory was there
abbrev pub is_failed : {X : Type 0} → Result X BindErr → Bool
is_failed (Ok bound) = false
is_failed (Err Failed) = true
is_failed (Err NoMemory) = false

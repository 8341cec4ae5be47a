-- What an accept tells.
use Rattle.std.specs.Prelude.{Bool, true, false, Result, Ok, Err}
use Rattle.wb_connections.specs.declared.accepting.AcceptErr.{AcceptErr}
use Rattle.wb_connections.specs.declared.accepting.AcceptErr.TheVariants.{Failed, NoMemory}

-- no connection could be had, and memory was there
abbrev pub is_failed : {X : Type 0} → Result X AcceptErr → Bool
is_failed (Ok came) = false
is_failed (Err Failed) = true
is_failed (Err NoMemory) = false

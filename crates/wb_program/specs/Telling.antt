-- Which reason is told by a command that refuses its input.
use Rattle.std.specs.Prelude.{ℕ, List, Option, true}
use Rattle.wb_command.specs.declared.Asked.{Asked}
use Rattle.wb_command.specs.declared.Asked.TheVariants as ask
use Rattle.wb_sessions.specs.Reasons.{Tells, WhyNoBook, WhyNoHistory, WhyNoOpening, WhyNothing}
use Rattle.wb_sessions.specs.declared.reasons.Reason.{Reason}

-- which reason each command tells that refuses its input
abbrev pub TellsWhy : Asked → (old left : Option (List ℕ)) → Option Reason → Type 0
TellsWhy ask.Check old left told = Tells WhyNothing old left told
TellsWhy ask.Upgrade old left told = Tells WhyNoBook old left told
TellsWhy (ask.Run true workers) old left told = Tells WhyNoOpening old left told
TellsWhy (ask.RunKept path true workers) old left told = Tells WhyNoOpening old left told
TellsWhy (ask.Serve port seats true workers) old left told = Tells WhyNoHistory old left told
TellsWhy asked old left told = Unit {0}

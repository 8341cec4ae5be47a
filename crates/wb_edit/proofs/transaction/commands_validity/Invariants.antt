use Rattle.std.proofs.Common.{take}
use Rattle.std.specs.List.{AllByRecursion}
use Rattle.wb_edit.specs.Valid.{IsValidCommand}
use Rattle.wb_edit.proofs.transaction.commands_validity.Given as goal

-- the commands so far are valid
abbrev pub invariant-loop-command : goal.invariant-loop-command
invariant-loop-command l = AllByRecursion IsValidCommand (take l.command-index l.commands)

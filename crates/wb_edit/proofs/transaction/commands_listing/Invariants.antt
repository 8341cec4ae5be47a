use Rattle.std.proofs.Common.{take}
use Rattle.std.specs.List.{AllByRecursion}
use Rattle.wb_edit.specs.Valid.{CommandListsOnce}
use Rattle.wb_edit.proofs.transaction.commands_listing.Given as goal

-- the commands so far list their indices once
abbrev pub invariant-loop-command : goal.invariant-loop-command
invariant-loop-command l = AllByRecursion CommandListsOnce (take l.command-index l.commands)

use Rattle.std.proofs.Common.{◌≡◌, take}
use Rattle.wb_edit.proofs.transaction.copied.Given as goal

-- the commands so far are copied
abbrev pub invariant-loop-command : goal.invariant-loop-command
invariant-loop-command l = l.copies.items ≡ take l.command-index l.commands

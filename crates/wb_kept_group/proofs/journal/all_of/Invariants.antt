use Rattle.std.proofs.Common.{◌≡◌, take}
use Rattle.wb_kept_group.specs.Together.{changes_in}
use Rattle.wb_kept_group.proofs.journal.all_of.Given as goal

abbrev pub invariant-loop-turn : goal.invariant-loop-turn
invariant-loop-turn l = l.all ≡ changes_in (take l.turn-index l.turns)

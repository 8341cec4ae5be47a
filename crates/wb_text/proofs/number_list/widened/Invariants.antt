use Rattle.std.proofs.Common.{◌≡◌, map, take}
use Rattle.wb_text.proofs.number_list.widened.Given as goal

-- the numbers so far are in the list
abbrev pub invariant-loop-narrow : goal.invariant-loop-narrow
invariant-loop-narrow g l = l.numbers.items ≡ map g.T.Width.whole (take l.narrow-index l.list)

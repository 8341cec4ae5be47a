use Rattle.std.proofs.Common.{◌≡◌, map, take}
use Rattle.wb_text.proofs.number_list.narrowed.Given as goal

-- the numbers so far are in the list
abbrev pub invariant-loop-number : goal.invariant-loop-number
invariant-loop-number g l = map g.T.Width.whole l.list.items ≡ take l.number-index l.numbers

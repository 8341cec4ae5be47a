use Rattle.std.proofs.Common.{◌≡◌, map, take}
use Rattle.wb_layers.proofs.looks.numbers.Given as goal

-- the numbers so far
abbrev pub invariant-loop-element : goal.invariant-loop-element
invariant-loop-element l = l.found.items ≡ map (λ e. e.1) (take l.element-index l.elements)

use Rattle.std.proofs.Common.{◌≡◌, ◌++◌}
use Rattle.wb_elements.specs.Piecewise.Marked.{numbers_of}
use Rattle.wb_elements.proofs.made.numbers.Given as goal

abbrev pub invariant-loop-key : goal.invariant-loop-key
invariant-loop-key g l = l.pairs.items ++ numbers_of l.key-iterator ≡ numbers_of l.marks.entries

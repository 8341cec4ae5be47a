use Rattle.std.proofs.Common.{◌≡◌, ◌+◌, ◌^◌, ◌<◌, [], ◌∷◌, ◌++◌, take, length}
use Rattle.wb_cells.specs.declared.cells.pattern.Pattern.TheVariants.{One}
use Rattle.wb_cells.specs.Reads.{patterns_of}
use Rattle.wb_log.specs.Sets.{each_read}
use Rattle.wb_log.proofs.steps.held.are_each.Given as goal

-- the patterns so far are the looks at the cells so far
abbrev pub invariant-loop-at : goal.invariant-loop-at
invariant-loop-at l = record {
  long : length (l.first ++ patterns_of l.rest) ≡ length l.cells + length l.cells;
  few : length l.cells + length l.cells < 2 ^ 64;
  same : take (l.at + l.at) (l.first ++ patterns_of l.rest) ≡ each_read (One l.before ∷ []) (take l.at l.cells);
}

use Rattle.std.proofs.Common.{◌≡◌, true, take}
use Rattle.std.specs.List.{list_all}
use Rattle.wb_cells.specs.declared.values.index.Index.TheVariants.{Point}
use Rattle.wb_elements.specs.Entries.{element_at, sets_one}
use Rattle.wb_elements.proofs.walk.is_each_there.Given as goal

abbrev pub invariant-loop-at : goal.invariant-loop-at
invariant-loop-at g l = list_all (sets_one Point (element_at l.elements.0)) (take l.at (g.B.ChangeBlock.entries l.block)) ≡ true

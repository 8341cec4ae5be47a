use Rattle.std.proofs.Common.{◌≡◌, true, take}
use Rattle.std.specs.List.{list_all}
use Rattle.wb_cells.specs.Runs.{labelled_changes}
use Rattle.wb_book.specs.Joined.{element_in}
use Rattle.wb_book.specs.Kept.{is_set}
use Rattle.wb_book.proofs.keep.are_labels_set.Given as goal

-- each change that was passed sets an element that is there
abbrev pub invariant-loop-at : goal.invariant-loop-at
invariant-loop-at l = list_all (is_set (element_in l.arrays.entries)) (take l.at (labelled_changes l.labels.0 l.labels.1)) ≡ true

use Rattle.std.proofs.Common.{◌++◌, ℕ, List, IsSome, take}
use Rattle.selective_undo.specs.declared.Change.{Change}
use Rattle.wb_cells.specs.declared.cells.cell.Cell.{Cell}
use Rattle.wb_cells.specs.declared.cells.value.Value.{Value}
use Rattle.wb_cells.specs.Runs.{labelled_changes}
use Rattle.wb_book.specs.Groups.{LeadTo, group_in, changes_in}
use Rattle.wb_book.proofs.groups.add_each_label.Given as goal

abbrev pub invariant-loop-at : goal.invariant-loop-at
invariant-loop-at l = record {
  lead : (before : List (Change Cell Value)) → ((b : List ℕ) → LeadTo before b (changes_in l.fn.groups.entries b)) →
      (b : List ℕ) → LeadTo (before ++ take l.at (labelled_changes l.labels.0 l.labels.1)) b (changes_in l.groups.entries b);
  stays : (b : List ℕ) → IsSome (group_in l.fn.groups.entries b) → IsSome (group_in l.groups.entries b);
}

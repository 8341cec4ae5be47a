use Rattle.std.proofs.Common.{◌≡◌, ◌++◌, ℕ, List, true, IsSome, take}
use Rattle.selective_undo.specs.declared.Change.{Change}
use Rattle.selective_undo.specs.Changes.{changes}
use Rattle.wb_cells.specs.declared.cells.cell.Cell.{Cell}
use Rattle.wb_cells.specs.declared.cells.cell.Cell.TheVariants.{Object}
use Rattle.wb_cells.specs.declared.cells.value.Value.{Value}
use Rattle.wb_cells.specs.Cells.{cell_cmp}
use Rattle.wb_cells.specs.Runs.{all_changes}
use Rattle.wb_book.specs.Groups.{LeadTo, group_in, changes_in}
use Rattle.wb_book.proofs.groups.add_runs.Given as goal

abbrev pub invariant-loop-run : goal.invariant-loop-run
invariant-loop-run l = record {
  lead : (before : List (Change Cell Value)) → ((b : List ℕ) → LeadTo before b (changes_in l.fn.groups.entries b)) →
      (b : List ℕ) → LeadTo (before ++ all_changes (take l.run-index l.runs)) b (changes_in l.groups.entries b);
  stays : (b : List ℕ) → IsSome (group_in l.fn.groups.entries b) → IsSome (group_in l.groups.entries b);
  objects : (b : List ℕ) → changes cell_cmp (all_changes (take l.run-index l.runs)) (Object b) ≡ true → IsSome (group_in l.groups.entries b);
}

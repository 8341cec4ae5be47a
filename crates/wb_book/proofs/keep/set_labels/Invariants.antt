use Rattle.std.proofs.Common.{◌≡◌, ℕ, List, is_some, option_map, take}
use Rattle.std.specs.Map.{keys_of}
use Rattle.selective_undo.specs.Changes.{apply}
use Rattle.wb_cells.specs.Cells.{Cells}
use Rattle.wb_cells.specs.Runs.{labelled_changes}
use Rattle.wb_cells.specs.declared.values.index.Index.{Index}
use Rattle.wb_book.specs.Joined.{element_in}
use Rattle.wb_book.specs.Kept.{array_in, Agree}
use Rattle.wb_book.proofs.keep.set_labels.Given as goal

abbrev pub invariant-loop-at : goal.invariant-loop-at
invariant-loop-at l = record {
  agree : (s : Cells) → Agree l.fn.arrays.entries s → Agree l.arrays.entries (apply (take l.at (labelled_changes l.labels.0 l.labels.1)) s);
  names : keys_of l.arrays.entries ≡ keys_of l.fn.arrays.entries;
  lie : (b : List ℕ) → option_map (λ p. p.1) (array_in l.arrays.entries b) ≡ option_map (λ p. p.1) (array_in l.fn.arrays.entries b);
  there : (b : List ℕ) (i : Index) → is_some (element_in l.arrays.entries b i) ≡ is_some (element_in l.fn.arrays.entries b i);
}

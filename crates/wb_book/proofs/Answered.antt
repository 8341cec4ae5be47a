-- What the stored cells answer is what the workbook answers.
use Rattle.std.proofs.Common.{◌≡◌, sym, ap, subst, ◌∙◌}
use Rattle.std.specs.BTreeMap.{BTreeMap}
use Rattle.wb_cells.specs.Cells.{Stored, Name, Cells, state_of}
use Rattle.wb_cells.specs.Families.{AreNamed}
use Rattle.wb_book.specs.Stored.{stored_cells}
use Rattle.wb_book.proofs.Stored.{kept_are_stored, stored_named}
use Rattle.wb_book.specs.Shelf.{Pieced, cells_of, IsShelf}

pub stored_are : (cells : Stored) (arrays : BTreeMap Name Pieced) → IsShelf cells arrays → state_of cells ≡ stored_cells (cells_of cells arrays)
stored_are cells arrays kept = kept_are_stored cells.entries arrays.entries
    (record { stored = kept.stored; ascending = kept.ascending; by_name = kept.by_name })

pub answered : {A : Type 0} (f : Cells → A) → ((s : Cells) → f (stored_cells s) ≡ f s) → (cells : Stored) (arrays : BTreeMap Name Pieced) →
    IsShelf cells arrays → f (state_of cells) ≡ f (cells_of cells arrays)
answered f same cells arrays kept = ap f (stored_are cells arrays kept) ∙ same (cells_of cells arrays)

pub are_named : (cells : Stored) (arrays : BTreeMap Name Pieced) → IsShelf cells arrays → AreNamed (state_of cells)
are_named cells arrays kept = subst (λ (s : Cells). AreNamed s) (sym (stored_are cells arrays kept)) (stored_named (cells_of cells arrays) kept.well_formed)

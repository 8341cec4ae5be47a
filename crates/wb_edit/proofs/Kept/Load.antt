-- Loading keeps a workbook well formed: it becomes the loaded one.
use Rattle.std.proofs.Common.{ℕ, List, sym, subst, ◌∙◌}
use Rattle.selective_undo.specs.Edit.{seen, write}
use Rattle.wb_cells.specs.declared.cells.pattern.Pattern.TheVariants.{Objects}
use Rattle.wb_cells.specs.Cells.{Cells}
use Rattle.wb_cells.specs.WellFormed.{IsWellFormed}
use Rattle.wb_edit.specs.Commands.{book_cells, load}
use Rattle.wb_edit.specs.Objects.{is_empty}
use Rattle.wb_cells.specs.Schema.{workbook}
use Rattle.wb_edit.proofs.Kept.Steps.{Keeps, keeps_judged}
use Rattle.wb_edit.proofs.Loading.{becomes, no_objects, nothing_there}
use Rattle.wb_text.specs.Texts.Books.{IsBookText, cells_in}
use Rattle.wb_text.proofs.Texts.Back.{cells_back}

pub load_kept : (s : Cells) (text : List ℕ) → IsBookText text → IsWellFormed s → Keeps (load text) s
load_kept s text valid h =
    keeps_judged s (is_empty (seen workbook Objects s)) (λ x. write (book_cells (cells_in text))) h (λ x ok.
    subst IsWellFormed (sym (becomes (cells_in text) s (nothing_there s h (no_objects s x ok)) ∙ cells_back text valid)) valid.well_formed)

-- The load of a workbook's text is accepted where there is nothing yet, and makes that workbook.
use Rattle.std.proofs.Common.{◌≡◌, ℕ, zero, suc, true, List, [], ◌∷◌, ◌++◌, Some, is_some, Ok, IsOk, slice_get, codes, refl, sym, ap, ap₂, subst, ◌∙◌}
use Rattle.std.specs.Fmt.{digits}
use Rattle.std.proofs.lemmas.List.{append-nil}
use Rattle.std.specs.FinMap.{empty, get-empty}
use Rattle.std.specs.FinMap.Entries.{where_key}
use Rattle.std.specs.List.{flat_map}
use Rattle.selective_undo.specs.Edit.{Trace, outcome, seen, trace, write, written}
use Rattle.selective_undo.specs.Changes.{apply}
use Rattle.selective_undo.specs.History.{IsLegal, replay}
use Rattle.selective_undo.proofs.Evaluation.{entries-empty, entries-retain_keys}
use Rattle.wb_cells.specs.declared.cells.pattern.Pattern.TheVariants.{Objects}
use Rattle.wb_cells.specs.Cells.{cell_cmp, cell_order, matches}
use Rattle.wb_edit.specs.Commands.{book_cells, load}
use Rattle.wb_edit.specs.Trees.{judged}
use Rattle.wb_edit.specs.Objects.{is_empty}
use Rattle.wb_cells.specs.Schema.{workbook}
use Rattle.wb_edit.specs.declared.edit.Edit.TheVariants.{Load}
use Rattle.wb_edit.proofs.Loading.{becomes}
use Rattle.wb_history.specs.Past.{meant}
use Rattle.wb_history.specs.Restored.{one_of}
use Rattle.wb_machine.specs.Histories.Text.{AreProper, AreSaid, edit_line, history_text, objects_text}
use Rattle.wb_text.specs.Lines.{book_text}
use Rattle.wb_text.specs.Texts.Books.{IsBookText, book_in, cells_in, is_book_text}
use Rattle.wb_text.proofs.Texts.Back.{book_back, cells_back}
use Rattle.wb_sessions.specs.Upgrading.{loaded, IsUpgraded, text_by_lines}

-- ---- in the empty workbook

none_seen : seen workbook Objects empty ≡ []
none_seen = entries-retain_keys cell_order empty (matches Objects) ∙ ap (where_key cell_cmp (matches Objects)) (entries-empty cell_cmp)

accepted : (text : List ℕ) → outcome (load text) empty ≡ Ok (book_cells (cells_in text))
accepted text = ap (λ es. outcome (judged (is_empty es) (λ x. write (book_cells (cells_in text)))) empty) none_seen

made : (text : List ℕ) → replay (meant (loaded text)) ≡ cells_in text
made text = ap (λ o. apply (written o) empty) (accepted text) ∙ becomes (cells_in text) empty (λ c. get-empty cell_cmp c)

-- ---- the history of the load

alone : (u t : Trace workbook) (k : ℕ) → slice_get (Some u ∷ []) k ≡ Some (Some t) → u ≡ t
alone u t zero e = cc
alone u t (suc k) e = cc

pub load_legal : (text : List ℕ) → IsLegal (meant (loaded text))
load_legal text k t is =
    let same = alone (trace (load text) empty) t k is in
    subst (λ (u : Trace workbook). IsOk u.outcome) same (subst IsOk (sym (accepted text)) refl)

is_text : (text : List ℕ) → IsBookText text → is_book_text text ≡ true
is_text text h = ap is_some (ap book_in h.spelled ∙ book_back h.workbook h.well_formed)

pub is_upgraded : (text : List ℕ) → IsBookText text → (AreProper (loaded text) → AreSaid (loaded text)) → IsUpgraded text
is_upgraded text h said = record {
  workbook = h.workbook;
  well_formed = h.well_formed;
  spelled = h.spelled;
  is_history = (load_legal text, said ((tt, (is_text text h, tt)), tt));
  same_workbook = made text ∙ cells_back text h;
}

-- the text is that of the workbook that its load makes
pub made_text : (text : List ℕ) → IsBookText text → text ≡ book_text (replay (meant (loaded text)))
made_text text h = h.spelled ∙ ap book_text (sym (made text ∙ cells_back text h))

-- the line of the load is the only one
pub only_line : (text : List ℕ) → flat_map edit_line (loaded text) ≡ edit_line (one_of (Load text) true)
only_line text = append-nil (edit_line (one_of (Load text) true))

-- the text of its history, by the lines of the objects and that line
pub by_lines : (text objects line : List ℕ) → objects ≡ objects_text (replay (meant (loaded text))) → line ≡ edit_line (one_of (Load text) true)
    → text_by_lines objects line ≡ history_text (loaded text)
unfolding digits
by_lines text objects line above is =
    ap₂ (λ os l. codes "chapel-workbook 2\n" ++ (os ++ (codes "history 1\n" ++ (l ++ codes "end\n")))) above (is ∙ sym (only_line text))

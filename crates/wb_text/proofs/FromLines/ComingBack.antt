-- A well-formed workbook comes back from its lines.
use Rattle.std.proofs.Common.{◌≡◌, true, false, List, sym, ap, ◌∙◌}
use Rattle.std.specs.FinMap.{get, empty}
use Rattle.std.specs.List.{AllByRecursion, list_all}
use Rattle.selective_undo.proofs.Changes.{same_states}
use Rattle.wb_cells.specs.Cells.{Cells, cell_order}
use Rattle.wb_cells.specs.WellFormed.{IsWellFormed}
use Rattle.wb_text.specs.Said.{Line, said}
use Rattle.wb_text.specs.FromLines.Made.{IsMade}
use Rattle.wb_text.specs.FromLines.Told.{is_sound, are_distinct, cells_put, told}
use Rattle.wb_text.proofs.FromLines.Built.{built}
use Rattle.wb_text.proofs.FromLines.Returned.{returned}
use Rattle.wb_text.proofs.FromLines.SoundSaid.{sound_said, distinct_said}
use Rattle.wb_text.proofs.FromLines.WellMade.{well_made}

true_false : {X : Type 0} → true ≡ false → X
true_false e = cc

pub not_unsound : {X : Type 0} (ls : List Line) (w : Cells) → IsWellFormed w → said w ≡ ls → list_all (is_sound ls) ls ≡ false → X
not_unsound ls w well e f = true_false (sym (sound_said w well) ∙ ap (λ ms. list_all (is_sound ms) ms) e ∙ f)

pub not_twice : {X : Type 0} (ls : List Line) (w : Cells) → said w ≡ ls → are_distinct ls ≡ false → X
not_twice ls w e f = true_false (sym (distinct_said w) ∙ ap are_distinct e ∙ f)

pub made_well : (ls : List Line) (s : Cells) → list_all (is_sound ls) ls ≡ true → AllByRecursion IsMade ls → are_distinct ls ≡ true →
    s ≡ cells_put ls ls empty → IsWellFormed s
made_well ls s sound made distinct is = well_made ls s sound made (λ c. ap (λ t. get t c) is ∙ built ls distinct c)

pub comes_back : (ls : List Line) (s w : Cells) → are_distinct ls ≡ true → s ≡ cells_put ls ls empty → IsWellFormed w → said w ≡ ls → s ≡ w
comes_back ls s w distinct is well e =
    same_states cell_order s w (λ c. ap (λ t. get t c) is ∙ built ls distinct c ∙ ap (λ ms. told ms c) (sym e) ∙ returned w well c)

use Rattle.std.proofs.Common.{◌≡◌, true, List, map, Option, is_some, option_map, sym, ap, subst, ◌∙◌}
use Rattle.std.specs.Global.{Vec}
use Rattle.std.specs.Prelude.{IfSome}
use Rattle.wb_cells.specs.declared.cells.cell.Cell.{Cell}
use Rattle.wb_cells.specs.declared.cells.value.Value.{Value}
use Rattle.wb_cells.specs.Cells.{Stored, state_of}
use Rattle.wb_text.specs.Parsed.Lines.{ReadsLines}
use Rattle.wb_text.specs.FromLines.Told.{are_sound, cells_told}
use Rattle.wb_text.specs.Said.{Line, line_of}
use Rattle.wb_text.specs.declared.said.ObjectLine.{ObjectLine}
use Rattle.wb_text.specs.Texts.Books.{IsBookText, cells_in}
use Rattle.wb_text.proofs.Texts.Back.{sound_read, cells_read}
use Rattle.wb_text.proofs.value.book_text.BookText.cells.Goals as goal

pub unreachable-requires : goal.unreachable-requires
unreachable-requires c =
    let text = c.as_str.result.now in
    let whole : IsBookText text = subst IsBookText (sym c.as_str.ensures.same) c.as_str.ensures.book in
    let ls : List Line = map line_of c.in-Ok-Some.lines.items in
    let sound : are_sound ls ≡ true = sound_read text whole ls (subst
    (λ (o : Option (Vec ObjectLine)). ReadsLines text (option_map (λ v. map line_of v.items) o)) c.in-Ok-Some.field-0-is c.in-Ok-Some.ensures.whole) in
    let none = sym (ap is_some c.in-None.is) ∙ (c.in_ok-cells-in-Ok-Some.ensures).sound ∙ ap (λ xs. are_sound (map line_of xs)) c.deref.ensures.value ∙ sound in
    cc

pub returns-in-Some : goal.returns-in-Some
returns-in-Some c =
    let text = c.as_str.result.now in
    let whole : IsBookText text = subst IsBookText (sym c.as_str.ensures.same) c.as_str.ensures.book in
    let ls : List Line = map line_of c.in-Ok-Some.lines.items in
    subst (λ (r : Option (Stored)). IfSome r (λ m. state_of m ≡ cells_told (map line_of c.deref.result.now))) c.in-Some.is
    (c.in_ok-cells-in-Ok-Some.ensures).cells
    ∙ ap (λ xs. cells_told (map line_of xs)) c.deref.ensures.value
    ∙ cells_read text whole ls (subst (λ (o : Option (Vec ObjectLine)). ReadsLines text (option_map (λ v. map line_of v.items) o)) c.in-Ok-Some.field-0-is
    c.in-Ok-Some.ensures.whole) ∙ ap cells_in c.as_str.ensures.same

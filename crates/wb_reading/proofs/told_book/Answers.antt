use Rattle.std.proofs.Common.{◌≡◌, map, option_map, option_and_then, Result, Ok, Err, IfOk, sym, ap, ◌∙◌}
use Rattle.std.specs.Global.{Vec}
use Rattle.wb_text.specs.Said.{line_of}
use Rattle.wb_text.specs.declared.said.ObjectLine.{ObjectLine}
use Rattle.wb_reading.specs.Reading.{sound_cells}
use Rattle.wb_reading.proofs.Finding.{found}
use Rattle.wb_reading.proofs.told_book.Goals as goal

same_if : {T E X : Type 0} (f : T → X) (x y : X) (r : Result T E) → x ≡ y → IfOk r (λ t. f t ≡ x) → IfOk r (λ t. f t ≡ y)
same_if f x y (Ok t) e h = h ∙ e
same_if f x y (Err why) e h = h

pub returns-in-Ok-Some : goal.returns-in-Ok-Some
returns-in-Ok-Some c =
    let read = ap (option_map (λ (v : Vec ObjectLine). map line_of v.items)) (sym c.in-Ok-Some.field-0-is) ∙ c.in-Ok-Some.ensures.lines in
    same_if _ (sound_cells (map line_of c.deref.result.now)) _ c.rebuild.result
    (ap (λ xs. sound_cells (map line_of xs)) c.deref.ensures.value ∙ ap (option_and_then sound_cells) read)
    (found (map line_of c.deref.result.now) c.rebuild.result c.rebuild.ensures.sound c.rebuild.ensures.cells)

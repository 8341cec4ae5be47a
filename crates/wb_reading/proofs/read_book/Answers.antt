use Rattle.std.proofs.Common.{◌≡◌, Some, None, option_map, sym, ap, ◌∙◌}
use Rattle.wb_cells.specs.Cells.{Contents}
use Rattle.wb_text.specs.Texts.Books.{book_in}
use Rattle.wb_text.proofs.Texts.Back.{book_back}
use Rattle.wb_reading.proofs.read_book.Goals as goal

none_some : {X : Type 0} (x : X) → None ≡ Some x → ⊥
none_some x e = cc

pub returns-in-Ok-None-clause-bad : goal.returns-in-Ok-None-clause-bad
returns-in-Ok-None-clause-bad c = λ bad w well e.
    none_some w (ap (option_map (λ (b : Contents). b.cells)) (sym c.in-Ok-None.field-0-is) ∙ c.in-Ok-None.ensures.told ∙ ap book_in e ∙ book_back w well)

use Rattle.wb_cells.proofs.Inside.{has_no_text}
use Rattle.wb_cells.proofs.values.rectangle.AnyRect.contains.Goals as goal

pub returns-in-Text : goal.returns-in-Text
returns-in-Text c = rw (← c.in-Text.ensures) (has_no_text c.args.self.now c.in-Text.field-0)

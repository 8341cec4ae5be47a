use Rattle.std.proofs.Common.{sym, ◌∙◌}
use Rattle.wb_edit.proofs.Loading.{without_first, with_first}
use Rattle.wb_edit.proofs.looks.objects.is_empty.Goals as goal

pub returns-in-None : goal.returns-in-None
returns-in-None c = λ s e. sym (without_first s (sym c.in-None.is ∙ e))

pub returns-in-Some : goal.returns-in-Some
returns-in-Some c = λ s e. sym (with_first s c.in-Some.field-0 (sym c.in-Some.is ∙ e))

use Rattle.std.proofs.Common.{◌≡◌, Option, Some, None, option_map, refl, ap, subst, ◌∙◌}
use Rattle.wb_edit.specs.Edits.{note_of}
use Rattle.wb_history.specs.Pieces.{OrNoMemory}
use Rattle.wb_history.specs.Queries.{note_answer, note_told}
use Rattle.wb_history.specs.Restored.{numbered_at}
use Rattle.wb_log.specs.Past.{Numbered}
use Rattle.wb_history.proofs.history.History.query.Goals as goal

told : (found : Option Numbered) → note_told (option_map (λ x. note_of x.edit) found) ≡ note_answer found
told (Some x) = refl
told None = refl

pub returns-in-Note : goal.returns-in-Note
returns-in-Note g c =
    rw c.in-Note.is (
    subst (λ a. OrNoMemory a c.note_answer.result) (ap note_told c.note_at.ensures ∙ told (numbered_at c.args.self.now.entries c.in-Note.number))
    c.note_answer.ensures)

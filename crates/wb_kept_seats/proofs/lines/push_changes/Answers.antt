use Rattle.std.proofs.Common.{◌∙◌, subst}
use Rattle.std.specs.Prelude.{string_bytes}
use Rattle.wb_keeping.proofs.Added.{unbroken_line}
use Rattle.wb_kept_seats.specs.Lines.{IsAhead}
use Rattle.wb_kept_seats.specs.declared.lines.Ahead.{Ahead}
use Rattle.wb_kept_seats.proofs.Answering.{line_text}
use Rattle.wb_kept_seats.proofs.lines.push_changes.Goals as goal

pub push_edit-requires : goal.push_edit-requires
push_edit-requires c =
    let is = subst (λ (a : Ahead). IsAhead c.requires.0 a) c.in-Edit.is c.requires.1 in
    unbroken_line c.requires.0 c.as_bytes.result.now (c.as_bytes.ensures.value ∙ line_text c.requires.0 (string_bytes c.in-Edit.line) is)

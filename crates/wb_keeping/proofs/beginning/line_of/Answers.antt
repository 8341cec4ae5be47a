use Rattle.std.proofs.Common.{string_bytes, Some, ◌∙◌, ap, subst}
use Rattle.std.specs.Str.{IsUtf8}
use Rattle.std.proofs.lemmas.Str.{is_utf8-from_IsUtf8}
use Rattle.serde_json.specs.View.{view}
use Rattle.wb_keeping.proofs.Begun.{shallow}
use Rattle.wb_keeping.proofs.beginning.line_of.Goals as goal

pub returns-clause-json : goal.returns-clause-json
returns-clause-json c = (
  is_utf8-from_IsUtf8 (string_bytes c.in_ok-line.line) (subst IsUtf8 c.as_str-line.ensures.value c.as_str-line.utf8),
  c.in_ok-line.ensures.reads_back (shallow (view c.in_ok-value.value) c.args.text.now c.in_ok-value.ensures) ∙ ap Some c.in_ok-value.ensures,
)

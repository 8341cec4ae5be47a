use Rattle.std.proofs.Common.{string_bytes, subst}
use Rattle.std.specs.Str.{IsUtf8}
use Rattle.std.proofs.lemmas.Str.{is_utf8-from_IsUtf8}
use Rattle.wb_requests.proofs.encoding.edits.line_of.Goals as goal

pub returns-clause-read_back : goal.returns-clause-read_back
returns-clause-read_back c = λ d.
    (is_utf8-from_IsUtf8 (string_bytes c.in_ok-text.text) (subst IsUtf8 c.as_str-line.ensures.value c.as_str-line.utf8), c.in_ok-text.ensures.reads_back d)

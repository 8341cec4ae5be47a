use Rattle.std.proofs.Common.{string_bytes}
use Rattle.wb_keeping.proofs.Begun.{line_unbroken}
use Rattle.wb_keeping.proofs.beginning.resume_line.Goals as goal

pub returns-clause-unbroken : goal.returns-clause-unbroken
returns-clause-unbroken c = line_unbroken string_bytes c.line_of.result c.as_str.result.now c.line_of.ensures.text

use Rattle.std.proofs.Common.{◌∙◌, rules}
use Rattle.wb_lines.specs.Lines.{BeginsWithLine}
use Rattle.wb_lines.proofs.Taking.{ready_text, always_found, takes_none, same_reader}
use Rattle.wb_lines.proofs.buffer.LineBuffer.ready_line.Goals as goal

pub returns-in-Ok-true-clause-some : goal.returns-in-Ok-true-clause-some
returns-in-Ok-true-clause-some c =
    ready_text c.args.self.now c.begin.new.self c.take_part.new.self _ c.kind.ensures c.begin.ensures.ahead c.begin.ensures.empty c.begin.ensures.same
    (rw c.in-Ok-true.field-0-test at c.in-Ok-true.ensures.ok)

pub returns-in-Ok-false-clause-none : goal.returns-in-Ok-false-clause-none
returns-in-Ok-false-clause-none c =
    let begins : BeginsWithLine c.args.self.now.ahead = search rules in
    absurd (always_found c.args.self.now c.begin.new.self c.take_part.new.self begins c.begin.ensures.ahead
    (rw c.in-Ok-false.field-0-test at c.in-Ok-false.ensures.ok))

pub returns-in-Err-clause-none : goal.returns-in-Err-clause-none
returns-in-Err-clause-none c =
    let left = c.in-Err.ensures.err in
    takes_none c.args.self.now c.take_part.new.self (left.0 ∙ c.begin.ensures.ahead) (same_reader _ c.begin.new.self _ c.begin.ensures.same left.1)

use Rattle.wb_machine.proofs.HistoryTexts.Steps.{front_is, unended, unended_twice}
use Rattle.wb_machine.proofs.histories.lines.without_end.Goals as goal

pub returns-in-Some-last_line : goal.returns-in-Some-last_line
returns-in-Some-last_line c = λ front e.
    front_is c.args.bytes.now c.in-Some.ended.now c.in-Some.field-0-1.now c.in-Some-last_line.front.now c.in-Some-last_line.field-0-1.now front
    c.in-Some.ensures c.in-Some-last_line.ensures e

pub returns-in-None-last_line : goal.returns-in-None-last_line
returns-in-None-last_line c = λ front e. unended_twice c.args.bytes.now c.in-Some.ended.now c.in-Some.field-0-1.now c.in-Some.ensures
    c.in-None-last_line.ensures front e

pub returns-in-None : goal.returns-in-None
returns-in-None c = λ front e. unended c.args.bytes.now c.in-None.ensures front e

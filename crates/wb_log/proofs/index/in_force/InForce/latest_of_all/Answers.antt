use Rattle.std.proofs.Common.{Some, None}
use Rattle.wb_footprints.specs.Numbers.{numbered}
use Rattle.wb_log.proofs.Entered.{greatest_whole, latest_none, latest_some, latest_positive}
use Rattle.wb_log.proofs.index.in_force.InForce.latest_of_all.Goals as goal

pub returns-in-None-clause-latest : goal.returns-in-None-clause-latest
returns-in-None-clause-latest c =
    let es = c.args.entries.now in
    let now = c.fill.new.self in
    latest_none es (greatest_whole (numbered now.numbers) es now.entered None c.if-self-entries.false c.fill.ensures.indexed.numbers c.in-None.ensures)

pub returns-in-Some-clause-latest : goal.returns-in-Some-clause-latest
returns-in-Some-clause-latest c =
    let es = c.args.entries.now in
    let now = c.fill.new.self in
    latest_some es c.in-Some.number (greatest_whole (numbered now.numbers) es now.entered (Some c.in-Some.number) c.if-self-entries.false
    c.fill.ensures.indexed.numbers c.in-Some.ensures)

pub overflow_sub-result : goal.overflow_sub-result
overflow_sub-result c =
    let es = c.args.entries.now in
    let now = c.fill.new.self in
    latest_positive es c.in-Some.number (greatest_whole (numbered now.numbers) es now.entered (Some c.in-Some.number) c.if-self-entries.false
    c.fill.ensures.indexed.numbers c.in-Some.ensures)

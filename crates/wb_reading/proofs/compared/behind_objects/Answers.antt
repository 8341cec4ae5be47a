use Rattle.wb_text.specs.Lines.{object_line}
use Rattle.wb_reading.proofs.Fronts.{other_line}
use Rattle.wb_reading.proofs.compared.behind_objects.Goals as goal

pub returns-in-None-clause-none : goal.returns-in-None-clause-none
returns-in-None-clause-none c =
    other_line (object_line c.args.book.now.cells) c.args.bytes.now c.loop-name.rest.now c.args.names.now c.loop-name.name-index
    c.name-item.result c.loop-name-test.true c.name-item.is c.loop-name.invariant (rw c.in-None.is at c.in_ok-behind.ensures.none)

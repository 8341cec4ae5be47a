use Rattle.std.proofs.Common.{arith}
use Rattle.wb_text.specs.FromLines.Made.{IsMade}
use Rattle.wb_text.proofs.FromLines.Steps.{all_lines}
use Rattle.wb_reading.proofs.workbook.rebuilding.lines_validity.Goals as goal

pub returns : goal.returns
returns c = all_lines IsMade c.args.lines.now c.loop-line.line-index (omega arith) c.loop-line.invariant

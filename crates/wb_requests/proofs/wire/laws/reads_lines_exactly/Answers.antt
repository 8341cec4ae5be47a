use Rattle.wb_requests.proofs.OnTheWire.Lines.{line_found, line_read}
use Rattle.wb_requests.proofs.wire.laws.reads_lines_exactly.Goals as goal

pub returns : goal.returns
returns c = λ line r. (line_found line r, line_read line r)

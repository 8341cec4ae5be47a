use Rattle.wb_requests.proofs.Encodings.Written.{line_is, line_json}
use Rattle.wb_requests.specs.Wire.Table.{table}
use Rattle.wb_requests.proofs.OnTheWire.Written.{reads_back}
use Rattle.wb_requests.proofs.wire.requests.request_text.Goals as goal

pub returns-in-Ok-clause-text : goal.returns-in-Ok-clause-text
returns-in-Ok-clause-text c = line_is _ (table c.args.asked.now) _ c.in_ok-value.ensures c.in-Ok.ensures.text

pub returns-in-Ok-clause-read_back : goal.returns-in-Ok-clause-read_back
returns-in-Ok-clause-read_back c = reads_back c.args.asked.now _ (line_json _ (table c.args.asked.now) _ c.in_ok-value.ensures c.in-Ok.ensures.read_back)

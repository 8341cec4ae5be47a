use Rattle.wb_requests.specs.Encoding.Table.{edit_table}
use Rattle.wb_requests.proofs.Encodings.Written.{line_is, line_json}
use Rattle.wb_requests.proofs.encoding.edits.edit_text.Goals as goal

pub returns-in-Ok-clause-text : goal.returns-in-Ok-clause-text
returns-in-Ok-clause-text c = line_is _ (edit_table c.args.edit.now) _ c.in_ok-value.ensures c.in-Ok.ensures.text

pub returns-in-Ok-clause-json : goal.returns-in-Ok-clause-json
returns-in-Ok-clause-json c = line_json _ (edit_table c.args.edit.now) _ c.in_ok-value.ensures c.in-Ok.ensures.read_back

use Rattle.std.proofs.Common.{sym, ◌∙◌}
use Rattle.serde_json.specs.View.{view}
use Rattle.wb_requests.proofs.Counts.{field_count-members}
use Rattle.wb_requests.proofs.requests.fields.field_count.Goals as goal

pub returns-in-Some : goal.returns-in-Some
returns-in-Some c = c.len.ensures.len ∙ sym (field_count-members (view c.args.value.now) c.in-Some.fields.now.entries c.in-Some.ensures)

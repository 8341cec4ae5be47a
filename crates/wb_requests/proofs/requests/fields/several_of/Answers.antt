use Rattle.std.proofs.Common.{ap, ◌∙◌, rules}
use Rattle.serde_json.specs.View.{view}
use Rattle.serde_json.proofs.Views.{view-Array}
use Rattle.wb_requests.proofs.Counts.{several_there, several_not}
use Rattle.wb_requests.proofs.requests.fields.several_of.Goals as goal

pub returns-then-is_several : goal.returns-then-is_several
returns-then-is_several c =
    several_there (view c.args.value.now) c.in-Array.items.items c.as_slice.result.now c.len.result
    (ap view c.in-Array.is ∙ view-Array c.in-Array.items) (search rules) (search rules) (search rules)

pub returns-else-is_several : goal.returns-else-is_several
returns-else-is_several c =
    several_not (view c.args.value.now) c.in-Array.items.items c.len.result
    (ap view c.in-Array.is ∙ view-Array c.in-Array.items) (search rules) (search rules)

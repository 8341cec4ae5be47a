use Rattle.std.proofs.Common.{sym, ap, ◌∙◌}
use Rattle.wb_reshape.specs.declared.new_indices.SetOperation.{SetOperation}
use Rattle.wb_reshape.specs.Sources.{combined}
use Rattle.wb_edit.proofs.Emptied.{empty_list, nothing_common}
use Rattle.wb_edit.proofs.commands.reshape.operations.leaves_nothing.Goals as goal

pub returns-in-Intersection : goal.returns-in-Intersection
returns-in-Intersection c = λ empty old.
    let given = c.args.given.now in
    ap (λ (how : SetOperation). combined how given old) c.in-Intersection.is
    ∙ nothing_common given old (empty_list given (sym c.is_empty.ensures ∙ empty))

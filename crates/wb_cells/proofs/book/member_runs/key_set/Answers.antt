use Rattle.std.proofs.Common.{List, ap, ◌∙◌, map}
use Rattle.wb_cells.specs.declared.values.index.Index.{Index}
use Rattle.wb_cells.specs.WellFormed.{has}
use Rattle.wb_cells.proofs.MemberRuns.{keys_of_entries}
use Rattle.wb_cells.proofs.book.member_runs.key_set.Goals as goal

pub returns-in-Ok-clause-same : goal.returns-in-Ok-clause-same
returns-in-Ok-clause-same g c = λ j.
    let f = g.K.AsIndex.as_index in
    let told = rw c.in-Ok-Some.field-0-is at c.in-Ok-Some.ensures.keys in
    ap (λ (is : List Index). has is j) c.of_form.ensures ∙ c.in-Ok.ensures.same j
    ∙ ap (λ (is : List Index). has is j) (ap (map f) told ∙ keys_of_entries f c.args.changes.now)

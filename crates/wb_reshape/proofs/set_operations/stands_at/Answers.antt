use Rattle.std.proofs.Common.{rules, ◌≡◌, Some, get_or, slice_get, subst, ◌∙◌}
use Rattle.std.proofs.lemmas.List.Elements.{Contains-get_or}
use Rattle.std.proofs.lemmas.Option.{slice_get_within, get_or_from_slice_get}
use Rattle.std.specs.List.{Contains}
use Rattle.wb_cells.specs.declared.values.index.Index.{Index}
use Rattle.wb_reshape.proofs.Members.{has-Contains}
use Rattle.wb_reshape.proofs.set_operations.stands_at.Goals as goal

pub returns-in-Some : goal.returns-in-Some
returns-in-Some c = λ same.
    let set = c.args.set.now in
    let there : Index = c.in-Some.there in
    let is : slice_get set c.args.place ≡ Some there = search rules in
    let one : there ≡ c.args.index.now = search rules in
    let found : Contains set (get_or set c.args.place there) = Contains-get_or set c.args.place there (slice_get_within set c.args.place there is) in
    has-Contains set c.args.index.now (subst (Contains set) (get_or_from_slice_get set c.args.place there there is ∙ one) found)

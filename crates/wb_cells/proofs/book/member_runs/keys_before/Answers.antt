use Rattle.std.proofs.Common.{◌≡◌, ℤ, List, map, Option, Some, sym, ap, ◌∙◌}
use Rattle.std.specs.Global.{Vec}
use Rattle.wb_cells.specs.declared.values.index.Index.{Index}
use Rattle.wb_cells.specs.MemberRuns.{key_found}
use Rattle.wb_cells.specs.MemberSets.{listed}
use Rattle.wb_cells.specs.Stored.{indices_in}
use Rattle.wb_cells.proofs.MemberRuns.{found_in, if_told}
use Rattle.wb_cells.proofs.book.member_runs.keys_before.Goals as goal

pub returns-in-Some : goal.returns-in-Some
returns-in-Some g c =
    let f = g.K.AsIndex.as_index in
    let sets = c.args.sets.now.entries in
    let d = c.args.domain.now in
    let is : List Index = listed c.form.result.now in
    let es : List (g.row.K.Denot × Option ℤ) = c.args.changes.now in
    let there : indices_in sets d ≡ Some is = sym c.in-Some.ensures.value ∙ ap (λ (js : List Index). Some js) (sym c.form.ensures.listed) in
    if_told (λ (v : Vec (g.row.K.Denot × Option ℤ)). v.items ≡ map (key_found f is) es) _ (λ v e. e ∙ found_in f sets d is es there) c.found_in.result
    c.found_in.ensures

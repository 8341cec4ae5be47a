use Rattle.std.proofs.Common.{◌≡◌, None, rules, w64, sym, ap, ◌∙◌}
use Rattle.std.specs.BTreeMap.{is_at}
use Rattle.std.specs.Map.{set_value}
use Rattle.std.proofs.lemmas.Int.{to_z-of_z}
use Rattle.wb_arrays.specs.Elements.{value_at}
use Rattle.wb_arrays.proofs.Changes.{set_value-none}
use Rattle.wb_cells.specs.Cells.{index_cmp}
use Rattle.wb_book.proofs.keep.replace_in.Goals as goal

pub returns-in-Some-clause-elements : goal.returns-in-Some-clause-elements
returns-in-Some-clause-elements c =
    let p = c.args.elements.now in
    let i = c.args.index.now in
    let v = c.args.value.now in
    let value : c.set_near.new.self.0 ≡ set_value (is_at (index_cmp i)) p.0 v =
    c.set_near.ensures.elements ∙ ap (set_value (is_at (index_cmp i)) p.0) (to_z-of_z w64 v (search rules)) in
    let mapping : c.set_near.new.self.1 ≡ p.1 = c.set_near.ensures.mapping in
    λ k. (value k, mapping k)

pub returns-in-None-clause-elements : goal.returns-in-None-clause-elements
returns-in-None-clause-elements c =
    let p = c.args.elements.now in
    let i = c.args.index.now in
    let v = c.args.value.now in
    let none : value_at index_cmp p.0 i ≡ None = sym c.find-was.ensures ∙ c.in-None.is in
    let stays = set_value-none (is_at (index_cmp i)) p.0 v none in
    λ k. (sym stays k, p.1)

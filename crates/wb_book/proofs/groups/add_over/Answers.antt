use Rattle.std.proofs.Common.{◌≡◌, Some, sym, ap, ◌∙◌}
use Rattle.std.proofs.lemmas.Result.{on_ok_weaker}
use Rattle.wb_cells.specs.declared.values.index.Index.TheVariants.{Point}
use Rattle.wb_book.specs.Groups.{Group, group_in}
use Rattle.wb_elements.specs.Piecewise.Marked.{as_changes}
use Rattle.wb_book.proofs.Leads.{group_stays, group_added, group_set}
use Rattle.wb_book.proofs.groups.add_over.Goals as goal

pub returns-clause-stays : goal.returns-clause-stays
returns-clause-stays g c =
    let gs = c.args.groups.now.entries in
    let p : Group = c.in-Some.group.now in
    let found : group_in gs c.args.name.now ≡ Some p = sym c.in-Some.ensures.value in
    group_stays gs _ c.args.name.now c.add_block.new.self
    (λ b. ap (λ es. group_in es b) (c.get_mut.follows.holds c.add_block.new.self).0 ∙ group_set gs c.args.name.now c.add_block.new.self p found b)

pub returns-clause-added : goal.returns-clause-added
returns-clause-added g c =
    let gs = c.args.groups.now.entries in
    let p : Group = c.in-Some.group.now in
    let found : group_in gs c.args.name.now ≡ Some p = sym c.in-Some.ensures.value in
    on_ok_weaker c.add_block.result
    (λ is. group_added gs _ c.args.name.now c.add_block.new.self
    (λ b. ap (λ es. group_in es b) (c.get_mut.follows.holds c.add_block.new.self).0 ∙ group_set gs c.args.name.now c.add_block.new.self p found b)
    p (as_changes Point (g.B.ChangeBlock.entries c.args.block.now)) found is)
    c.add_block.ensures

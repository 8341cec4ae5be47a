use Rattle.std.proofs.Common.{◌≡◌, None, sym, ◌∙◌}
use Rattle.wb_book.specs.Groups.{group_in}
use Rattle.wb_book.proofs.Leads.{none_named, group_stays, group_named}
use Rattle.wb_book.proofs.groups.put_group.Goals as goal

pub returns-in-Ok-clause-same : goal.returns-in-Ok-clause-same
returns-in-Ok-clause-same c =
    let gs = c.args.groups.now.entries in
    let absent : group_in gs c.args.name.now ≡ None = none_named (group_in gs c.args.name.now) (sym c.contains_key.ensures ∙ c.if-contains_key.false) in
    group_named gs c.insert.new.self.entries c.args.name.now c.new.result (λ b. c.in-Ok.ensures.updates.0 b) absent c.new.ensures

pub returns-in-Ok-clause-stays : goal.returns-in-Ok-clause-stays
returns-in-Ok-clause-stays c =
    group_stays c.args.groups.now.entries c.insert.new.self.entries c.args.name.now c.new.result (λ b. c.in-Ok.ensures.updates.0 b)

use Rattle.std.proofs.Common.{◌≡◌, List, length, ap, sym, ◌∙◌}
use Rattle.wb_desk.specs.declared.entry.Entry.{Entry}
use Rattle.wb_desk.specs.Courses.{count_of, empty_lists}
use Rattle.wb_desk.proofs.Courses.{so_many_lists, count_none}
use Rattle.wb_desk.proofs.journal.Journal.at.Goals as goal

pub invariant_of-result : goal.invariant_of-result
invariant_of-result c = sym (ap (λ (lists : List (List Entry)). count_of lists) c.in-Ok.ensures ∙ count_none c.args.seats)

pub returns-in-Ok-clause-ok : goal.returns-in-Ok-clause-ok
returns-in-Ok-clause-ok c =
    let many : length c.in-Ok.lists.items ≡ c.args.seats = ap (λ (lists : List (List Entry)). length lists) c.in-Ok.ensures ∙ so_many_lists c.args.seats in
    λ i. record { seats = many i; entries = c.in-Ok.ensures i; settled = 0; history = c.args.history }

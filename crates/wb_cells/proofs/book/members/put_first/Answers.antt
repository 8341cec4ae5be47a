use Rattle.std.proofs.Common.{List, None, sym, ap, subst}
use Rattle.std.specs.List.Sorted.{IsStrictlySortedBy}
use Rattle.wb_cells.specs.declared.values.index.Index.{Index}
use Rattle.wb_cells.specs.Cells.{index_cmp}
use Rattle.wb_cells.specs.WellFormed.{has}
use Rattle.wb_cells.proofs.MemberMaps.{member_more, each_put, one_ascends}
use Rattle.wb_cells.proofs.book.members.put_first.Goals as goal

pub returns-in-Ok-clause-ok : goal.returns-in-Ok-clause-ok
returns-in-Ok-clause-ok c =
    member_more c.args.sets.now.entries c.insert.new.self.entries c.args.domain.now c.args.index.now None c.in_ok-set.set c.requires.none
    c.in-Ok.ensures.updates.0 (λ j. ap (λ (is : List Index). has is j) c.in_ok-set.ensures)

pub returns-in-Ok-clause-each : goal.returns-in-Ok-clause-each
returns-in-Ok-clause-each c =
    each_put c.args.sets.now.entries c.insert.new.self.entries c.args.domain.now c.in_ok-set.set c.in-Ok.ensures.updates.0
    (subst (λ (is : List Index). IsStrictlySortedBy index_cmp is) (sym c.in_ok-set.ensures) (one_ascends c.args.index.now)) c.requires.each

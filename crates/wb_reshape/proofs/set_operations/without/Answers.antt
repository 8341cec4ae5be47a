use Rattle.std.proofs.Common.{List, subst, sym, ◌∙◌}
use Rattle.wb_cells.specs.declared.values.index.Index.{Index}
use Rattle.wb_range.specs.Domain.{IsListedOnce}
use Rattle.wb_reshape.proofs.Members.{without_same}
use Rattle.wb_reshape.proofs.Without.{IsListedOnce-without}
use Rattle.wb_reshape.proofs.set_operations.without.Goals as goal

pub returns-clause-same : goal.returns-clause-same
returns-clause-same c = c.in_ok-kept.ensures ∙ without_same c.in_ok-set.set c.args.others.now c.args.listed.now c.in_ok-set.ensures.members

pub returns-clause-once : goal.returns-clause-once
returns-clause-once c = λ once. subst (λ (is : List Index). IsListedOnce is) (sym c.in_ok-kept.ensures)
    (IsListedOnce-without c.in_ok-set.set c.args.listed.now once)

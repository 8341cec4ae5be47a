use Rattle.std.proofs.Common.{sym, subst}
use Rattle.wb_range.specs.Domain.{IsListedOnce}
use Rattle.wb_edit.specs.Plans.{indices_in}
use Rattle.wb_edit.proofs.commands.writes.become_found.Goals as goal

pub become_listed-requires-clause-once : goal.become_listed-requires-clause-once
become_listed-requires-clause-once c =
    subst IsListedOnce (sym c.deref.ensures.value) (subst (λ f. IsListedOnce (indices_in f)) c.in-Listed.is c.requires.once)

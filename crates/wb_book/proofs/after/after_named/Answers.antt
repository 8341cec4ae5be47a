use Rattle.std.proofs.Common.{sym, ◌∙◌}
use Rattle.wb_book.specs.Joined.{stored_in}
use Rattle.wb_book.proofs.Formed.{lies_may}
use Rattle.wb_book.proofs.after.after_named.Goals as goal

pub after_group-requires-clause-may_lie : goal.after_group-requires-clause-may_lie
after_group-requires-clause-may_lie g c κs within =
    lies_may (stored_in c.args.cells.now.entries) c.args.name.now c.in-Some-lies.lies (sym c.lies.ensures ∙ c.in-Some-lies.is)

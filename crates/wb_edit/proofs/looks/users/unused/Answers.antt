use Rattle.std.proofs.Common.{List}
use Rattle.std.proofs.lemmas.Result.{err_from_is_err_and}
use Rattle.wb_cells.specs.declared.cells.value.Binding.{Binding}
use Rattle.wb_cells.specs.Cells.{Name}
use Rattle.wb_edit.specs.Trees.{judged}
use Rattle.wb_edit.specs.Users.{is_unused, uses}
use Rattle.wb_edit.proofs.Trees.{halts, then_judged}
use Rattle.wb_edit.proofs.looks.users.unused.Goals as goal

pub returns-in_err-users : goal.returns-in_err-users
returns-in_err-users c =
    let p = err_from_is_err_and c.from_residual.result c.from_residual.ensures.1 in
    rw (p.1, p.2) (halts (uses c.args.domain) c.args.book.now.cells c.args.footprint.now c.uses.new.footprint (λ users. judged (is_unused users))
    c.in_err-users.field-0.0 c.in_err-users.ensures.looks)

pub returns : goal.returns
returns c =
    let users : List (Name × Binding) = c.in_ok-users.users.items in
    rw (c.or_refused.ensures, c.is_unused.ensures, c.deref.ensures.value)
    (then_judged (uses c.args.domain) c.args.book.now.cells c.args.footprint.now c.uses.new.footprint is_unused users c.in_ok-users.ensures.looks)

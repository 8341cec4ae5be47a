use Rattle.std.proofs.Common.{◌≡◌, ◌++◌, true, false, None, sym, ap, subst, ◌∙◌}
use Rattle.std.proofs.lemmas.Result.{on_ok_weaker}
use Rattle.selective_undo.specs.Changes.{changes, AllOnce}
use Rattle.wb_cells.specs.Cells.{Name, Changes, cell_cmp}
use Rattle.wb_cells.specs.Readers.{members}
use Rattle.wb_edit.proofs.Emptied.{as_cells, once_members, new_members}
use Rattle.wb_edit.proofs.commands.writes.clear_members.Goals as goal

pub add_run-requires-clause-once : goal.add_run-requires-clause-once
add_run-requires-clause-once c =
    let told = rw c.in-Ok-Some.field-0-is at c.in-Ok-Some.ensures in
    subst (λ (xs : Changes). AllOnce cell_cmp xs) (sym told) (once_members c.args.book.now.cells c.args.domain)

pub add_run-requires-clause-new : goal.add_run-requires-clause-new
add_run-requires-clause-new c = λ q e.
    let d : Name = c.args.domain in
    let told = rw c.in-Ok-Some.field-0-is at c.in-Ok-Some.ensures in
    new_members c.args.delta.now d None c.requires (members c.args.book.now.cells d) q (ap (λ (xs : Changes). changes cell_cmp xs q) (sym told) ∙ e)

pub returns-in-Ok-Some-clause-ok : goal.returns-in-Ok-Some-clause-ok
returns-in-Ok-Some-clause-ok c =
    let d : Name = c.args.domain in
    let told = rw c.in-Ok-Some.field-0-is at c.in-Ok-Some.ensures in
    on_ok_weaker c.add_run.result
    (λ added. added ∙ ap (λ (xs : Changes). c.args.delta.now ++ xs) (told ∙ as_cells d None (members c.args.book.now.cells d))) c.add_run.ensures.ok

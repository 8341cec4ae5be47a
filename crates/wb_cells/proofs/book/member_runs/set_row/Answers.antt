use Rattle.std.proofs.Common.{Some, map, sym, ap, ◌∙◌}
use Rattle.selective_undo.specs.Changes.{apply, sets}
use Rattle.wb_cells.specs.declared.cells.value.Value.TheVariants.{Present}
use Rattle.wb_cells.specs.declared.changes.row.IndexedRow.{IndexedRow}
use Rattle.wb_cells.specs.Cells.{Changes, state_of}
use Rattle.wb_cells.specs.MemberRuns.{keyed_changes}
use Rattle.wb_cells.proofs.MemberRuns.{members_same, set_keys}
use Rattle.wb_cells.proofs.book.member_runs.set_row.Goals as goal

pub returns-in-Ok-Some-clause-set : goal.returns-in-Ok-Some-clause-set
returns-in-Ok-Some-clause-set g c = λ put.
    let f = g.K.AsIndex.as_index in
    let d = c.in-Some.domain in
    let es = c.args.changes.now in
    let before = state_of c.args.cells.now in
    let same = rw c.in-Ok-Some.field-0-is at c.in-Ok-Some.ensures.same in
    let all = rw c.in-Ok-Some.field-0-is at c.in-Ok-Some.ensures.set in
    c.put_members.ensures.put put ∙ members_same d (Some Present) c.in-Ok-Some.set (map (λ e. f e.0) es) before same
    ∙ ap (λ (xs : Changes). apply xs before) (sym (set_keys f d es all) ∙ ap (λ (r : IndexedRow). sets (keyed_changes f r es)) (sym c.in-Some.ensures))

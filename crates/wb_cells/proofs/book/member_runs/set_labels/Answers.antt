use Rattle.std.proofs.Common.{ℕ, ℤ, List, Option, Some, map, sym, ap, ◌∙◌}
use Rattle.selective_undo.specs.Changes.{apply, sets}
use Rattle.wb_cells.specs.declared.cells.value.Value.TheVariants.{Present}
use Rattle.wb_cells.specs.declared.changes.row.IndexedRow.{IndexedRow}
use Rattle.wb_cells.specs.declared.values.index.Index.TheVariants.{Text}
use Rattle.wb_cells.specs.Cells.{Changes, state_of}
use Rattle.wb_cells.specs.Runs.{labelled_changes}
use Rattle.wb_cells.proofs.MemberRuns.{members_same, set_keys}
use Rattle.wb_cells.proofs.book.member_runs.set_labels.Goals as goal

pub returns-in-Ok-Some-clause-set : goal.returns-in-Ok-Some-clause-set
returns-in-Ok-Some-clause-set c = λ put.
    let d = c.in-Some.domain in
    let es : List (List ℕ × Option ℤ) = c.args.labels.now.1 in
    let before = state_of c.args.cells.now in
    let same = rw c.in-Ok-Some.field-0-is at c.in-Ok-Some.ensures.same in
    let all = rw c.in-Ok-Some.field-0-is at c.in-Ok-Some.ensures.set in
    c.put_members.ensures.put put ∙ members_same d (Some Present) c.in-Ok-Some.set (map (λ e. Text e.0) es) before same
    ∙ ap (λ (xs : Changes). apply xs before) (sym (set_keys Text d es all)
    ∙ ap (λ (r : IndexedRow). sets (labelled_changes r es)) (sym c.in-Some.ensures ∙ c.row.ensures))

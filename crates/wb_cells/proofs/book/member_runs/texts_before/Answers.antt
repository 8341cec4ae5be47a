use Rattle.std.proofs.Common.{◌≡◌, ℕ, ℤ, List, map, Option, None, sym, ap, ◌∙◌}
use Rattle.wb_cells.specs.declared.changes.row.IndexedRow.{IndexedRow}
use Rattle.wb_cells.specs.declared.changes.row.IndexedRow.TheVariants.{Members}
use Rattle.wb_cells.specs.declared.values.index.Index.TheVariants.{Text}
use Rattle.wb_cells.specs.Stored.{indices_in}
use Rattle.wb_cells.proofs.MemberRuns.{absent_in, if_told}
use Rattle.wb_cells.proofs.book.member_runs.texts_before.Goals as goal

pub returns-in-None : goal.returns-in-None
returns-in-None c =
    let sets = c.args.sets.now.entries in
    let d = c.args.domain.now in
    let es : List (List ℕ × Option ℤ) = c.args.labels.now.1 in
    let none : indices_in sets d ≡ None = sym c.in-None.ensures.value in
    let absent : IndexedRow × List (List ℕ × Option ℤ) = (Members d, map (λ (e : List ℕ × Option ℤ). (e.0, None)) es) in
    if_told (λ (l : IndexedRow × List (List ℕ × Option ℤ)). l ≡ absent) _ (λ l e.
    e ∙ ap (λ (xs : List (List ℕ × Option ℤ)). (Members d, xs)) (absent_in Text sets d es none)) c.labels_absent.result c.labels_absent.ensures

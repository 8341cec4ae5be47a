use Rattle.std.proofs.Common.{◌≡◌, ℕ, ℤ, List, map, Option, sym, ap, ◌∙◌}
use Rattle.std.specs.Global.{Vec}
use Rattle.std.specs.BTreeMap.{is_at}
use Rattle.std.specs.Map.{lookup}
use Rattle.selective_undo.specs.declared.Change.{Change}
use Rattle.wb_cells.specs.declared.cells.cell.Cell.{Cell}
use Rattle.wb_cells.specs.declared.cells.cell.Cell.TheVariants.{Member}
use Rattle.wb_cells.specs.declared.cells.value.Value.{Value}
use Rattle.wb_cells.specs.declared.changes.row.IndexedRow.{IndexedRow}
use Rattle.wb_cells.specs.declared.changes.row.IndexedRow.TheVariants.{Members}
use Rattle.wb_cells.specs.declared.values.index.Index.{Index}
use Rattle.wb_cells.specs.Cells.{Changes, Stored, cell_cmp}
use Rattle.wb_cells.specs.MemberRuns.{keyed_changes, member_found}
use Rattle.wb_cells.specs.Stored.{is_member, value_in}
use Rattle.wb_cells.specs.WellFormed.{present_if}
use Rattle.wb_cells.proofs.MemberRuns.{keys_told, if_told}
use Rattle.wb_cells.proofs.Parts.{value-member}
use Rattle.wb_cells.proofs.book.member_runs.row_before.Goals as goal

pub returns-in-Some : goal.returns-in-Some
returns-in-Some g c =
    let f = g.K.AsIndex.as_index in
    let d = c.in-Some.domain in
    let sets = c.cells.inside.members.entries in
    let es : List (g.row.K.Denot × Option ℤ) = c.args.changes.now in
    let found : List (g.row.K.Denot × Option ℤ) = map (member_found f sets d) es in
    let there : (answers : Cell → Option Value) → ((e : List ℕ) (i : Index) → answers (Member e i) ≡ lookup (is_at (cell_cmp (Member e i))) c.args.cells.now.entries) →
    (i : Index) → answers (Member d i) ≡ present_if (is_member sets d i) =
    λ answers is i. is d i ∙ ap (λ (m : Stored). value_in m.entries (Member d i)) (sym c.cells.view_is)
    ∙ value-member c.cells.inside.low c.cells.inside.members c.cells.inside.high c.cells.invariant d i in
    let told : (Cell → Option Value) → Changes → Changes =
    λ answers. map (λ (x : Change Cell Value). (let y : Change Cell Value = record { cell = x.cell; value = answers x.cell } in y)) in
    if_told (λ (v : Vec (g.row.K.Denot × Option ℤ)). v.items ≡ found) _ (λ v e. λ answers is.
    ap (λ (r : IndexedRow). keyed_changes f r v.items) c.in-Some.ensures ∙ ap (keyed_changes f (Members d)) e ∙ keys_told f sets d es answers (there answers is)
    ∙ ap (λ (r : IndexedRow). told answers (keyed_changes f r es)) (sym c.in-Some.ensures)) c.keys_before.result c.keys_before.ensures

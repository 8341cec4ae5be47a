use Rattle.std.proofs.Common.{◌≡◌, None, IfSome, sym, ap, subst, ◌∙◌}
use Rattle.wb_cells.specs.declared.changes.row.IndexedRow.{IndexedRow}
use Rattle.wb_cells.specs.declared.values.index.Index.TheVariants.{Point}
use Rattle.wb_cells.specs.Cells.{Changes, state_of}
use Rattle.wb_cells.specs.MemberRuns.{members_to, keyed_changes}
use Rattle.wb_cells.specs.Readers.{members}
use Rattle.wb_cells.specs.Runs.{changes_in}
use Rattle.wb_cells.proofs.book.member_runs.emptied.Goals as goal

pub returns-in-Rank1 : goal.returns-in-Rank1
returns-in-Rank1 c =
    let packed = c.in-Rank1.packed in
    let same : keyed_changes Point c.row.result.now c.changes.result.now ≡ changes_in c.args.form.now =
    ap (λ (r : IndexedRow). keyed_changes Point r c.changes.result.now) c.row.ensures ∙ ap (keyed_changes Point packed.row) c.changes.ensures
    ∙ ap changes_in (sym c.in-Rank1.is) in
    subst (λ (xs : Changes). IfSome c.row_emptied.result (λ d. xs ≡ members_to d None (members (state_of c.args.cells.now) d))) same
    c.row_emptied.ensures

pub returns-in-Rank2 : goal.returns-in-Rank2
returns-in-Rank2 c =
    let packed = c.in-Rank2.packed in
    let same : keyed_changes Point c.row-in-Rank2.result.now c.changes-in-Rank2.result.now ≡ changes_in c.args.form.now =
    ap (λ (r : IndexedRow). keyed_changes Point r c.changes-in-Rank2.result.now) c.row-in-Rank2.ensures ∙ ap (keyed_changes Point packed.row) c.changes-in-Rank2.ensures
    ∙ ap changes_in (sym c.in-Rank2.is) in
    subst (λ (xs : Changes). IfSome c.row_emptied-in-Rank2.result (λ d. xs ≡ members_to d None (members (state_of c.args.cells.now) d))) same
    c.row_emptied-in-Rank2.ensures

pub returns-in-Rank3 : goal.returns-in-Rank3
returns-in-Rank3 c =
    let packed = c.in-Rank3.packed in
    let same : keyed_changes Point c.row-in-Rank3.result.now c.changes-in-Rank3.result.now ≡ changes_in c.args.form.now =
    ap (λ (r : IndexedRow). keyed_changes Point r c.changes-in-Rank3.result.now) c.row-in-Rank3.ensures ∙ ap (keyed_changes Point packed.row) c.changes-in-Rank3.ensures
    ∙ ap changes_in (sym c.in-Rank3.is) in
    subst (λ (xs : Changes). IfSome c.row_emptied-in-Rank3.result (λ d. xs ≡ members_to d None (members (state_of c.args.cells.now) d))) same
    c.row_emptied-in-Rank3.ensures

use Rattle.std.proofs.Common.{◌≡◌, List, [], Option, None, IfSome, unwrap_or, sym, ap, subst, ◌∙◌}
use Rattle.wb_cells.specs.declared.changes.row.IndexedRow.{IndexedRow}
use Rattle.wb_cells.specs.declared.changes.row.IndexedRow.TheVariants.{Members}
use Rattle.wb_cells.specs.declared.values.index.Index.{Index}
use Rattle.wb_cells.specs.Cells.{Name, Stored, state_of}
use Rattle.wb_cells.specs.MemberRuns.{members_to}
use Rattle.wb_cells.specs.Readers.{members}
use Rattle.wb_cells.specs.Runs.{labelled_changes}
use Rattle.wb_cells.specs.Stored.{indices_in}
use Rattle.wb_cells.proofs.PartsSeen.{members_are}
use Rattle.wb_cells.proofs.book.member_runs.labelled_emptied.Goals as goal

pub returns-then-empties_labels : goal.returns-then-empties_labels
returns-then-empties_labels c =
    let d = c.in_ok-domain.domain in
    let is : List Index = unwrap_or (indices_in c.cells.inside.members.entries d) [] in
    let all : members (state_of c.args.cells.now) d ≡ is = ap (λ (m : Stored). members (state_of m) d) (sym c.cells.view_is)
    ∙ members_are c.cells.inside.low c.cells.inside.members c.cells.inside.high c.cells.invariant d in
    let row : c.row.result.now ≡ Members d = subst (λ (o : Option Name). IfSome o (λ e. c.row.result.now ≡ Members e)) c.in_ok-domain.was c.domain_of.ensures in
    ap (λ (r : IndexedRow). labelled_changes r c.args.labels.now.1) (sym c.row.ensures ∙ row) ∙ c.empties_labels.ensures c.if-empties_labels.true
    ∙ ap (members_to d None) (sym all)

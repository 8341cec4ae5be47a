use Rattle.std.proofs.Common.{◌≡◌, List, [], Option, None, IfSome, unwrap_or, sym, ap, subst, ◌∙◌}
use Rattle.wb_cells.specs.declared.changes.row.IndexedRow.{IndexedRow}
use Rattle.wb_cells.specs.declared.changes.row.IndexedRow.TheVariants.{Members}
use Rattle.wb_cells.specs.declared.values.index.Index.{Index}
use Rattle.wb_cells.specs.Cells.{Name, Stored, state_of}
use Rattle.wb_cells.specs.MemberRuns.{members_to, keyed_changes}
use Rattle.wb_cells.specs.Readers.{members}
use Rattle.wb_cells.specs.Stored.{indices_in}
use Rattle.wb_cells.proofs.PartsSeen.{members_are}
use Rattle.wb_cells.proofs.book.member_runs.row_emptied.Goals as goal

pub returns-then-empties_keys : goal.returns-then-empties_keys
returns-then-empties_keys g c =
    let f = g.K.AsIndex.as_index in
    let d = c.in_ok-domain.domain in
    let is : List Index = unwrap_or (indices_in c.cells.inside.members.entries d) [] in
    let all : members (state_of c.args.cells.now) d ≡ is = ap (λ (m : Stored). members (state_of m) d) (sym c.cells.view_is)
    ∙ members_are c.cells.inside.low c.cells.inside.members c.cells.inside.high c.cells.invariant d in
    let row : c.args.row.now ≡ Members d = subst (λ (o : Option Name). IfSome o (λ e. c.args.row.now ≡ Members e)) c.in_ok-domain.was c.domain_of.ensures in
    ap (λ (r : IndexedRow). keyed_changes f r c.args.changes.now) row ∙ c.empties_keys.ensures c.if-empties_keys.true ∙ ap (members_to d None) (sym all)

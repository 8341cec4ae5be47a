use Rattle.std.proofs.Common.{◌≡◌, List, [], None, unwrap_or, sym, ap, ◌∙◌}
use Rattle.wb_cells.specs.declared.changes.run.RunForm.{RunForm}
use Rattle.wb_cells.specs.declared.values.index.Index.{Index}
use Rattle.wb_cells.specs.Cells.{Stored, state_of}
use Rattle.wb_cells.specs.MemberRuns.{members_to}
use Rattle.wb_cells.specs.Readers.{members}
use Rattle.wb_cells.specs.Runs.{changes_in}
use Rattle.wb_cells.specs.Stored.{indices_in}
use Rattle.wb_cells.proofs.MemberRuns.{if_told}
use Rattle.wb_cells.proofs.PartsSeen.{members_are}
use Rattle.wb_cells.proofs.book.member_runs.clearing_run.Goals as goal

pub returns : goal.returns
returns c =
    let d = c.args.domain.now in
    let is : List Index = unwrap_or (indices_in c.cells.inside.members.entries d) [] in
    let all : members (state_of c.args.cells.now) d ≡ is = ap (λ (m : Stored). members (state_of m) d) (sym c.cells.view_is)
    ∙ members_are c.cells.inside.low c.cells.inside.members c.cells.inside.high c.cells.invariant d in
    if_told (λ (f : RunForm). changes_in f ≡ members_to d None is) _ (λ f e. e ∙ ap (members_to d None) (sym all)) c.clearing_set.result c.clearing_set.ensures

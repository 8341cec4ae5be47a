use Rattle.std.proofs.Common.{◌≡◌, List, None, IfOk, IfSome, ap, subst, ◌∙◌}
use Rattle.std.specs.List.{filter_map}
use Rattle.wb_cells.specs.declared.cells.pattern.Pattern.TheVariants.{Members}
use Rattle.wb_cells.specs.declared.values.index.Index.{Index}
use Rattle.wb_cells.specs.MemberRuns.{members_to}
use Rattle.wb_cells.specs.Readers.{member_in, members}
use Rattle.wb_cells.specs.Runs.{changes_in}
use Rattle.wb_book.proofs.Stored.{seen-stored, members_stored}
use Rattle.wb_book.proofs.Answered.{answered}
use Rattle.wb_book.proofs.shelf.Book.clearing_run.Goals as goal

pub returns : goal.returns
returns c =
    let d = c.args.domain.now in
    rw (← c.self.view_is)
    (subst (λ (is : List Index). IfOk c.clearing_run.result (λ o. IfSome o (λ f. changes_in f ≡ members_to d None is)))
    (answered (λ s. members s d) (λ s. ap (filter_map member_in) (seen-stored s (Members d) (members_stored d)))
    c.self.inside.cells c.self.inside.arrays c.self.invariant)
    c.clearing_run.ensures)

use Rattle.std.proofs.Common.{◌≡◌, List, None, IfOk, IfSome, sym, ap, subst, ◌∙◌}
use Rattle.wb_cells.specs.declared.values.index.Index.{Index}
use Rattle.wb_cells.specs.MemberRuns.{members_to}
use Rattle.wb_cells.specs.Readers.{members}
use Rattle.wb_cells.specs.Runs.{changes_in}
use Rattle.wb_layers.specs.Laid.{Laid}
use Rattle.wb_layers.proofs.Shown.{members_kept}
use Rattle.wb_layers.proofs.layered.Layered.clearing_run.Goals as goal

pub returns : goal.returns
returns c =
    let d = c.args.domain.now in
    subst (λ (is : List Index). IfOk c.clearing_run.result (λ o. IfSome o (λ f. changes_in f ≡ members_to d None is)))
    (sym (members_kept c.self.inside.book.now.cells c.self.inside.layer d (sym c.if-touches.ensures)) ∙ ap (λ (t : Laid). members t.cells d) c.self.view_is)
    c.clearing_run.ensures

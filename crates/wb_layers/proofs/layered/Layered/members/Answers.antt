use Rattle.std.proofs.Common.{sym, ap, ◌∙◌}
use Rattle.std.proofs.lemmas.Result.{IfOk-weaker}
use Rattle.wb_cells.specs.Readers.{members}
use Rattle.wb_layers.specs.Laid.{Laid}
use Rattle.wb_layers.proofs.Shown.{members_kept}
use Rattle.wb_layers.proofs.layered.Layered.members.Goals as goal

pub returns-then-not-touches : goal.returns-then-not-touches
returns-then-not-touches c =
    let d = c.args.domain.now in
    IfOk-weaker c.listed.result _ _
    (λ v is. is ∙ c.members.ensures ∙ sym (members_kept c.self.inside.book.now.cells c.self.inside.layer d (sym c.if-not-touches.ensures)) ∙ ap (λ (t : Laid). members t.cells d) c.self.view_is)
    c.listed.ensures

use Rattle.std.proofs.Common.{sym, ap, ◌∙◌}
use Rattle.std.proofs.lemmas.Result.{IfOk-weaker}
use Rattle.wb_cells.specs.Readers.{elements}
use Rattle.wb_layers.specs.Laid.{Laid}
use Rattle.wb_layers.proofs.Shown.{elements_kept}
use Rattle.wb_layers.proofs.layered.Layered.elements.Goals as goal

pub returns-then-not-touches : goal.returns-then-not-touches
returns-then-not-touches c =
    let a = c.args.name.now in
    IfOk-weaker c.elements.result _ _
    (λ v is. is ∙ sym (elements_kept c.self.inside.book.now.cells c.self.inside.layer a (sym c.if-not-touches.ensures)) ∙ ap (λ (t : Laid). elements t.cells a) c.self.view_is)
    c.elements.ensures

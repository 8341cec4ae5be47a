use Rattle.std.proofs.Common.{ap, ◌∙◌}
use Rattle.std.proofs.lemmas.Result.{IfOk-weaker}
use Rattle.wb_cells.specs.Readers.{seen}
use Rattle.wb_layers.specs.Laid.{Laid}
use Rattle.wb_layers.proofs.layered.Layered.seen.Goals as goal

pub returns : goal.returns
returns c =
    IfOk-weaker c.over.result _ _ (λ v is. is ∙ ap (λ (t : Laid). seen t.cells c.args.pattern.now) c.self.view_is)
    (c.over.ensures c.self.inside.book.now.cells c.in_ok-shown.ensures)

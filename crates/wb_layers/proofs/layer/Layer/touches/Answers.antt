use Rattle.std.proofs.Common.{ap, ◌∙◌}
use Rattle.std.specs.List.{list_any}
use Rattle.wb_cells.specs.Cells.{Changes, matches}
use Rattle.wb_layers.proofs.Families.{touched}
use Rattle.wb_layers.proofs.layer.Layer.touches.Goals as goal

pub returns : goal.returns
returns c =
    let p = c.args.pattern.now in
    c.touches.ensures.tells ∙ touched c.self.inside.changes.items p c.self.inside.places c.self.invariant c.touches.ensures.ordered
    ∙ ap (λ (ys : Changes). list_any (λ x. matches p x.cell) ys) c.self.view_is

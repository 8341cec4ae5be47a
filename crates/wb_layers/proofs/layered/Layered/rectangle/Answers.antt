use Rattle.std.proofs.Common.{◌≡◌, ℤ, List, sym, ap, subst, ◌∙◌}
use Rattle.std.specs.Map.{keys_of}
use Rattle.std.specs.Prelude.{IfSome}
use Rattle.wb_cells.specs.declared.values.index.Index.{Index}
use Rattle.wb_cells.specs.Readers.{elements}
use Rattle.wb_cells.specs.Shapes.{indices}
use Rattle.wb_layers.specs.Laid.{Laid}
use Rattle.wb_layers.proofs.Shown.{elements_kept}
use Rattle.wb_layers.proofs.layered.Layered.rectangle.Goals as goal

pub returns : goal.returns
returns c =
    let a = c.args.array.now in
    subst (λ (es : List (Index × ℤ)). IfSome c.rectangle.result (λ rs. keys_of es ≡ indices rs))
    (sym (elements_kept c.self.inside.book.now.cells c.self.inside.layer a (sym c.if-touches.ensures)) ∙ ap (λ (t : Laid). elements t.cells a) c.self.view_is)
    c.rectangle.ensures

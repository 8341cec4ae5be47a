use Rattle.std.proofs.Common.{◌≡◌, sym, ap, subst, ◌∙◌}
use Rattle.selective_undo.specs.Changes.{apply}
use Rattle.selective_undo.proofs.Together.{apply-together}
use Rattle.wb_cells.specs.Cells.{Cells, Changes, cell_order}
use Rattle.wb_cells.specs.WellFormed.{IsWellFormed}
use Rattle.wb_layers.specs.Laid.{Laid}
use Rattle.wb_layers.proofs.layered.Layered.lay.Goals as goal

pub returns-in-Ok-clause-cells : goal.returns-in-Ok-clause-cells
returns-in-Ok-clause-cells c =
    let s : Cells = c.self.inside.book.now.cells in
    let ys : Changes = c.args.delta.now in
    ap (λ (l : Changes). apply l s) c.in-Ok.ensures ∙ apply-together cell_order c.self.inside.layer ys s ∙ ap (λ (t : Laid). apply ys t.cells) c.self.view_is

pub invariant_of-result : goal.invariant_of-result
invariant_of-result c =
    let s : Cells = c.self.inside.book.now.cells in
    let ys : Changes = c.args.delta.now in
    let same : apply c.in-Ok.layer s ≡ apply ys c.args.self.cells =
    ap (λ (l : Changes). apply l s) c.in-Ok.ensures ∙ apply-together cell_order c.self.inside.layer ys s ∙ ap (λ (t : Laid). apply ys t.cells) c.self.view_is in
    subst IsWellFormed (sym same) c.requires

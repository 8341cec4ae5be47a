use Rattle.std.proofs.Common.{slice_get, sym, ap, ◌∙◌}
use Rattle.std.specs.List.{filter_map}
use Rattle.wb_cells.specs.declared.cells.cell.Cell.{Cell}
use Rattle.wb_cells.specs.declared.cells.value.Value.{Value}
use Rattle.wb_cells.specs.Readers.{object_of, objects}
use Rattle.wb_layers.specs.Laid.{Laid}
use Rattle.wb_layers.proofs.Shown.{objects_shown, objects_kept}
use Rattle.wb_layers.proofs.layered.Layered.first_object.Goals as goal

pub returns-then-not-touches : goal.returns-then-not-touches
returns-then-not-touches c =
    c.object.ensures
    ∙ ap (λ ns. slice_get ns 0) (sym (objects_kept c.self.inside.book.now.cells c.self.inside.layer (sym c.if-not-touches.ensures))
    ∙ ap (λ (t : Laid). objects t.cells) c.self.view_is)

pub returns-in-Ok : goal.returns-in-Ok
returns-in-Ok c =
    c.first_of.ensures
    ∙ ap (λ ns. slice_get ns 0) (c.deref-in-Ok.ensures.value ∙ c.in-Ok.ensures
    ∙ ap (filter_map (λ (x : Cell × Value). object_of x.0)) (c.deref.ensures.value ∙ c.in_ok-shown.ensures)
    ∙ objects_shown c.args.self.now.cells)

use Rattle.std.proofs.Common.{◌≡◌, Some, sym, ap, ◌∙◌}
use Rattle.selective_undo.specs.declared.Change.{Change}
use Rattle.selective_undo.specs.Together.{left_in}
use Rattle.wb_cells.specs.declared.cells.cell.Cell.{Cell}
use Rattle.wb_cells.specs.declared.cells.value.Value.{Value}
use Rattle.wb_cells.specs.Cells.{Changes, cell_cmp}
use Rattle.wb_layers.specs.Places.{place_in}
use Rattle.wb_layers.proofs.Placed.{left_in-keeps, place_none, stands_at}
use Rattle.wb_layers.proofs.layer.Layer.change.Goals as goal

pub index-requires : goal.index-requires
index-requires c =
    let xs = c.self.inside.changes.items in
    let place = c.in-Some.place.now in
    let at : place_in xs c.args.cell.now ≡ Some place = sym (c.self.invariant.found c.args.cell.now) ∙ sym c.in-Some.ensures.value in
    let stands = stands_at xs c.args.cell.now place at in
    let low = stands.low in
    rw c.self.inside.changes.ok.0 low

pub returns-in-Some : goal.returns-in-Some
returns-in-Some c = λ there.
    let xs = c.self.inside.changes.items in
    let place = c.in-Some.place.now in
    let at : place_in xs c.args.cell.now ≡ Some place = sym (c.self.invariant.found c.args.cell.now) ∙ sym c.in-Some.ensures.value in
    let stands = stands_at xs c.args.cell.now place at in
    ap (λ (ys : Changes). left_in cell_cmp ys c.args.cell.now there) (sym c.self.view_is)
    ∙ stands.value c.self.invariant.once c.index.result.now there
    ∙ ap (λ (x : Change Cell Value). x.value) (sym c.index.ensures)

pub returns-in-None : goal.returns-in-None
returns-in-None c = λ there.
    let xs = c.self.inside.changes.items in
    ap (λ (ys : Changes). left_in cell_cmp ys c.args.cell.now there) (sym c.self.view_is)
    ∙ left_in-keeps xs c.args.cell.now there (place_none xs c.args.cell.now (sym (c.self.invariant.found c.args.cell.now) ∙ sym c.in-None.ensures.value))

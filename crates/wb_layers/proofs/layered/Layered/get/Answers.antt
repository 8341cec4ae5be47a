use Rattle.std.proofs.Common.{sym, ap, ◌∙◌}
use Rattle.std.specs.FinMap as map
use Rattle.wb_layers.specs.Places.{left_by}
use Rattle.wb_layers.proofs.Shown.{get-apply}
use Rattle.wb_layers.proofs.layered.Layered.get.Goals as goal

pub returns-in-Some : goal.returns-in-Some
returns-in-Some c =
    let s = c.self.inside.book.now.cells in
    let q = c.args.cell.now in
    let there = map.get s q in
    rw (← c.self.view_is) (c.value.ensures ∙ sym (get-apply c.self.inside.layer s q ∙ c.change.ensures there ∙ ap (λ o. left_by o there) c.in-Some.is))

pub returns-in-None : goal.returns-in-None
returns-in-None c =
    let s = c.self.inside.book.now.cells in
    let q = c.args.cell.now in
    let there = map.get s q in
    rw (← c.self.view_is) (c.get-in-None.ensures ∙ sym (get-apply c.self.inside.layer s q ∙ c.change.ensures there ∙ ap (λ o. left_by o there) c.in-None.is))

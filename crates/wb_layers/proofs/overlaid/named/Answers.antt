use Rattle.std.proofs.Common.{◌<◌, List, ℕ, length, map, sym, ap, subst, ◌∙◌}
use Rattle.std.specs.List.{AllByRecursion}
use Rattle.std.proofs.lemmas.Result.{IfOk-weaker}
use Rattle.wb_cells.specs.declared.cells.cell.Cell.{Cell}
use Rattle.wb_cells.specs.Cells.{Changes}
use Rattle.wb_layers.specs.Places.{IsFamily, change_at}
use Rattle.wb_layers.proofs.Families.{low_places, family}
use Rattle.wb_layers.proofs.overlaid.named.Goals as goal

pub at_places-requires : goal.at_places-requires
at_places-requires c =
    let xs : Changes = c.args.changes.now in
    subst (λ (es : List (Cell × ℕ)). AllByRecursion (λ e. e.1 < length xs) es) (sym (c.deref.ensures.value ∙ c.in-Ok.ensures))
    (low_places xs c.args.pattern.now c.args.places.now c.requires c.len-count.ensures.ordered)

pub returns-in-Ok : goal.returns-in-Ok
returns-in-Ok c =
    let xs : Changes = c.args.changes.now in
    let p = c.args.pattern.now in
    IfOk-weaker c.at_places.result _ _
    (λ v is. subst (λ (own : Changes). IsFamily p xs own) (sym (is ∙ ap (map (change_at xs)) (c.deref.ensures.value ∙ c.in-Ok.ensures)))
    (family xs p c.args.places.now c.requires c.len-count.ensures.ordered))
    c.at_places.ensures

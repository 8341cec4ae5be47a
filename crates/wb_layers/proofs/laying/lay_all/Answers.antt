use Rattle.std.proofs.Common.{◌≡◌, ◌++◌, ◌∷◌, sym, ap, subst, ◌∙◌}
use Rattle.std.proofs.lemmas.Result.{on_ok_weaker}
use Rattle.selective_undo.specs.Changes.{AllOnce}
use Rattle.selective_undo.specs.Together.{together}
use Rattle.wb_cells.specs.Cells.{Changes, cell_cmp}
use Rattle.wb_cells.specs.Runs.{all_changes, in_first}
use Rattle.wb_layers.proofs.Together.{together_cons}
use Rattle.wb_layers.proofs.laying.lay_all.Goals as goal

pub returns-clause-laid : goal.returns-clause-laid
returns-clause-laid c =
    let xs = c.args.changes.now.items in
    let x = c.in-Some.first in
    let rest : Changes = all_changes c.parts-first.result.1.now in
    let parts : c.args.delta.now ≡ x ∷ rest = c.parts-first.ensures ∙ ap (λ o. in_first o ++ rest) c.in-Some.is in
    let once = subst (λ (q : Changes). AllOnce cell_cmp q) parts c.requires.once in
    on_ok_weaker c.lay_runs-2.result
    (λ laid. laid ∙ ap (λ q. together cell_cmp q rest) c.in_ok-lay_one.ensures.laid ∙ together_cons xs rest x once.0 ∙ ap (together cell_cmp xs) (sym parts))
    c.lay_runs-2.ensures.laid

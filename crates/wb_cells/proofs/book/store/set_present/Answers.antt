use Rattle.std.proofs.Common.{[], ◌∷◌, ◌∙◌, ◌≡◌, ap, subst, sym, IsSome, get_or}
use Rattle.std.specs.FinMap.{get}
use Rattle.selective_undo.specs.Changes.{apply, sets}
use Rattle.selective_undo.specs.declared.Change.{Change}
use Rattle.selective_undo.proofs.AllOrNothing.{set_step, set_others, set_stays, other_cell}
use Rattle.wb_cells.specs.declared.cells.cell.Cell.{Cell}
use Rattle.wb_cells.specs.declared.cells.value.Value.{Value}
use Rattle.wb_cells.specs.Cells.{cell_order, state_of}
use Rattle.wb_cells.proofs.book.store.set_present.Goals as goal

pub loop-x-preserved : goal.loop-x-preserved
loop-x-preserved c =
    let i = c.loop-x.x-index in
    let xs = c.args.delta.now in
    let x = c.x-item.result in
    let s = state_of c.loop-x.cells in
    let t = state_of c.set_one.new.cells in
    let old = c.loop-x.invariant in
    let made : t ≡ apply (sets (get_or xs i x ∷ [])) s = subst (λ (y : Change Cell Value). t ≡ apply (sets (y ∷ [])) s) c.x-item.is c.in_ok-set_one.ensures.ok
    in
    record {
      ahead = set_step cell_order xs i x s t (apply (sets xs) (state_of c.args.cells.now)) c.loop-x-test.true made old.ahead;
      others = λ q e. ap (λ r. get r q) made ∙ set_others cell_order (get_or xs i x) s q (other_cell cell_order xs i x q c.loop-x-test.true e) ∙ old.others q e;
      stays = λ q there. subst (λ r. IsSome (get r q)) (sym made) (set_stays cell_order (get_or xs i x) s q (old.stays q there));
    }

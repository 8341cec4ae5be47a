use Rattle.std.proofs.Common.{◌≡◌, ◌<◌, ℕ, zero, suc, [], ◌∷◌, refl, length, get_or, drop, drop-cons, arith, sym, ap, subst, ◌∙◌}
use Rattle.std.specs.List.{All}
use Rattle.std.proofs.lemmas.List.Elements.{All-get_or}
use Rattle.std.specs.FinMap.{get}
use Rattle.selective_undo.specs.Changes.{apply, applied, AllOnce, HasRoom, RoomFor}
use Rattle.selective_undo.specs.declared.Change.{Change}
use Rattle.selective_undo.proofs.AllOrNothing.{put_step, once_step, room_step}
use Rattle.wb_cells.specs.declared.cells.cell.Cell.{Cell}
use Rattle.wb_cells.specs.declared.cells.value.Value.{Value}
use Rattle.wb_cells.specs.Cells.{Cells, Changes, cell_cmp, cell_order, state_of}
use Rattle.wb_cells.specs.Stored.{FitsChange}
use Rattle.wb_book.proofs.storing.put_back.Goals as goal

one_fits : (x : Change Cell Value) → FitsChange x → All FitsChange (x ∷ [])
one_fits x fits zero d low = fits
one_fits x fits (suc k) d low = absurd (omega (arith, low))

-- where the changes that are left have room, the next of them has
room_here : (xs : Changes) (i : ℕ) (d : Change Cell Value) (s : Cells) → i < length xs → HasRoom (drop i xs) s →
    RoomFor (get_or xs i d).value (get s (get_or xs i d).cell)
room_here xs i d s low room = let room' : HasRoom (get_or xs i d ∷ drop (suc i) xs) s = rw (drop-cons xs i d low) at room in room'.0

pub loop-at-preserved : goal.loop-at-preserved
loop-at-preserved c =
    let i = c.loop-at.at in
    let xs = c.args.before.now in
    let x = c.change_near-change.result in
    let s = state_of c.loop-at.cells in
    let t = state_of c.put_back.new.cells in
    let old = c.loop-at.invariant in
    let low : i < length xs = omega (arith, c.loop-at-test.true, c.len-at-end.ensures) in
    let put : t ≡ applied x s = c.put_back.ensures ∙ ap (λ (ys : Changes). apply ys s) c.from_ref.ensures.value in
    let made : t ≡ applied (get_or xs i x) s = subst (λ (y : Change Cell Value). t ≡ applied y s) c.change_near-change.ensures put in
    record {
      ahead = put_step cell_order xs i x s t (apply xs (state_of c.args.cells.now)) low made old.ahead;
      once = once_step cell_order xs i x low old.once;
      room = room_step cell_order xs i x s t low made old.once old.room;
    }

pub put_back-requires-clause-once : goal.put_back-requires-clause-once
put_back-requires-clause-once c = subst (λ (ys : Changes). AllOnce cell_cmp ys) (sym c.from_ref.ensures.value) (refl, tt)

pub put_back-requires-clause-room : goal.put_back-requires-clause-room
put_back-requires-clause-room c =
    let i = c.loop-at.at in
    let xs = c.args.before.now in
    let x = c.change_near-change.result in
    let s = state_of c.loop-at.cells in
    let low : i < length xs = omega (arith, c.loop-at-test.true, c.len-at-end.ensures) in
    let here : RoomFor x.value (get s x.cell) =
    subst (λ (y : Change Cell Value). RoomFor y.value (get s y.cell)) (sym c.change_near-change.ensures) (room_here xs i x s low c.loop-at.invariant.room) in
    subst (λ (ys : Changes). HasRoom ys s) (sym c.from_ref.ensures.value) (here, tt)

pub put_back-requires-clause-fits : goal.put_back-requires-clause-fits
put_back-requires-clause-fits c =
    let x = c.change_near-change.result in
    let low : c.loop-at.at < length c.args.before.now = omega (arith, c.loop-at-test.true, c.len-at-end.ensures) in
    let here : FitsChange x =
    subst (λ (y : Change Cell Value). FitsChange y) (sym c.change_near-change.ensures)
    (All-get_or FitsChange c.args.before.now c.loop-at.at x low c.requires.fits) in
    subst (λ (ys : Changes). All FitsChange ys) (sym c.from_ref.ensures.value) (one_fits x here)

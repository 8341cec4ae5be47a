use Rattle.std.proofs.Common.{◌≡◌, List, [], ◌∷◌, ◌++◌, ◌+◌, drop, sym, ap, subst, ◌∙◌, append-nil, arith}
use Rattle.std.proofs.lemmas.Grind.{common_steps}
use Rattle.std.specs.FinMap.{entries, entries_sorted}
use Rattle.selective_undo.specs.Changes.{AllOnce}
use Rattle.wb_cells.specs.declared.cells.cell.Cell.{Cell}
use Rattle.wb_cells.specs.declared.cells.value.Value.{Value}
use Rattle.wb_cells.specs.Cells.{Changes, cell_cmp, state_of}
use Rattle.wb_edit.specs.Writes.{set_to, put_each}
use Rattle.wb_edit.proofs.Loading.{next_new, puts_once}
use Rattle.wb_edit.proofs.commands.load.changes_of.Goals as goal

pub put-requires : goal.put-requires
put-requires c =
    let delta : Changes = c.loop-cell.delta in
    let xs : List (Cell × Value) = c.deref-cell-items.result.now in
    let i = c.loop-cell.cell-index in
    let x : Cell × Value = c.loop-cell-item.result in
    let ahead : drop i xs ≡ x ∷ drop (i + 1) xs = grind (arith, common_steps, c.loop-cell-item.is, c.loop-cell-test.true) in
    let left : delta ++ put_each (x ∷ drop (i + 1) xs) ≡ put_each xs =
    ap (λ (es : List (Cell × Value)). delta ++ put_each es) (sym ahead) ∙ c.loop-cell.invariant in
    let once : AllOnce cell_cmp (put_each xs) =
    subst (λ (es : List (Cell × Value)). AllOnce cell_cmp (put_each es)) (sym (c.deref-cell-items.ensures.value ∙ c.in-Ok.ensures))
    (puts_once (entries (state_of c.args.cells.now)) (entries_sorted (state_of c.args.cells.now))) in
    next_new delta (set_to x.0 x.1) (put_each (drop (i + 1) xs)) (subst (λ (ys : Changes). AllOnce cell_cmp ys) (sym left) once)

pub returns : goal.returns
returns c =
    let delta : Changes = c.loop-cell.delta in
    let xs : List (Cell × Value) = c.deref-cell-items.result.now in
    let none : drop c.loop-cell.cell-index xs ≡ [] = grind (arith, common_steps, c.loop-cell-test.false) in
    sym (append-nil delta) ∙ ap (λ (es : List (Cell × Value)). delta ++ put_each es) (sym none) ∙ c.loop-cell.invariant
    ∙ ap (λ (es : List (Cell × Value)). put_each es) (c.deref-cell-items.ensures.value ∙ c.in-Ok.ensures)

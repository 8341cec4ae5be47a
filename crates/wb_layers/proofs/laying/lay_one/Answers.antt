use Rattle.std.proofs.Common.{◌≡◌, ◌∷◌, [], Some, None, cond, length, sym, ap, subst, ◌∙◌, refl, IsSome}
use Rattle.std.specs.BTreeMap as tree
use Rattle.std.specs.Ordering.{eq_by_cmp}
use Rattle.selective_undo.specs.Changes.{AllOnce}
use Rattle.selective_undo.proofs.Together.{once-together}
use Rattle.wb_cells.specs.declared.cells.cell.Cell.{Cell}
use Rattle.wb_cells.specs.Cells.{Changes, cell_cmp, cell_order}
use Rattle.wb_cells.proofs.Shown.{once-push}
use Rattle.wb_cells.specs.Families.{HasName}
use Rattle.wb_layers.specs.Places.{place_in}
use Rattle.wb_layers.proofs.Placed.{stands_at, place_set, place_none, place_push, called_more}
use Rattle.wb_layers.proofs.Together.{together_at, together_new}
use Rattle.wb_layers.proofs.laying.lay_one.Goals as goal

pub index_mut-requires : goal.index_mut-requires
index_mut-requires c =
    let xs = c.args.changes.now.items in
    let y = c.args.change.now in
    let place = c.in-Some.place in
    let at : place_in xs y.cell ≡ Some place =
    sym (c.requires.found y.cell) ∙ ap (λ k. tree.get cell_cmp c.args.places.now k) (sym c.cell-cell.ensures) ∙ sym c.in_ok-place.ensures.place ∙ c.in-Some.is in
    let stands = stands_at xs y.cell place at in
    let low = stands.low in
    rw c.args.changes.now.ok.0 low

pub returns-in-Some-clause-laid : goal.returns-in-Some-clause-laid
returns-in-Some-clause-laid c =
    let xs = c.args.changes.now.items in
    let y = c.args.change.now in
    let place = c.in-Some.place in
    let at : place_in xs y.cell ≡ Some place =
    sym (c.requires.found y.cell) ∙ ap (λ k. tree.get cell_cmp c.args.places.now k) (sym c.cell-cell.ensures) ∙ sym c.in_ok-place.ensures.place ∙ c.in-Some.is in
    sym (together_at xs y place c.requires.once at)

pub returns-in-Some-clause-found : goal.returns-in-Some-clause-found
returns-in-Some-clause-found c =
    let xs = c.args.changes.now.items in
    let y = c.args.change.now in
    let place = c.in-Some.place in
    let at : place_in xs y.cell ≡ Some place =
    sym (c.requires.found y.cell) ∙ ap (λ k. tree.get cell_cmp c.args.places.now k) (sym c.cell-cell.ensures) ∙ sym c.in_ok-place.ensures.place ∙ c.in-Some.is in
    let same = rw c.in-Some.is at c.in_ok-place.ensures.had in
    let alone : AllOnce cell_cmp (y ∷ []) = (refl, tt) in
    record {
      once = subst (λ (zs : Changes). AllOnce cell_cmp zs) (together_at xs y place c.requires.once at) (once-together cell_order xs (y ∷ []) c.requires.once alone);
      found = λ q. same q ∙ c.requires.found q ∙ sym (place_set xs y place q at);
      called = λ q there. c.requires.called q (subst IsSome (same q) there);
    }

pub returns-in_ok-push-in-None-clause-laid : goal.returns-in_ok-push-in-None-clause-laid
returns-in_ok-push-in-None-clause-laid c =
    let xs = c.args.changes.now.items in
    let y = c.args.change.now in
    let new : place_in xs y.cell ≡ None =
    sym (c.requires.found y.cell) ∙ ap (λ k. tree.get cell_cmp c.args.places.now k) (sym c.cell-cell.ensures) ∙ sym c.in_ok-place.ensures.place ∙ c.in-None.is in
    c.in_ok-push-in-None.ensures.items ∙ sym (together_new xs y (place_none xs y.cell new))

pub returns-in_ok-push-in-None-clause-found : goal.returns-in_ok-push-in-None-clause-found
returns-in_ok-push-in-None-clause-found c =
    let xs = c.args.changes.now.items in
    let y = c.args.change.now in
    let new : place_in xs y.cell ≡ None =
    sym (c.requires.found y.cell) ∙ ap (λ k. tree.get cell_cmp c.args.places.now k) (sym c.cell-cell.ensures) ∙ sym c.in_ok-place.ensures.place ∙ c.in-None.is in
    let given = rw c.in-None.is at c.in_ok-place.ensures.given in
    let next : (q : Cell) → tree.get cell_cmp c.place_or_next.new.places q ≡ cond (eq_by_cmp cell_cmp q y.cell) (Some c.len-next.result) (tree.get cell_cmp c.args.places.now q) =
    λ q. given q ∙ ap (λ d. cond (eq_by_cmp cell_cmp q d) (Some c.len-next.result) (tree.get cell_cmp c.args.places.now q)) c.cell-cell.ensures in
    rw c.in_ok-push-in-None.ensures.items (record {
      once = once-push xs y c.requires.once (place_none xs y.cell new);
      found = λ q.
          next q
          ∙ ap (λ n. cond (eq_by_cmp cell_cmp q y.cell) (Some n) (tree.get cell_cmp c.args.places.now q)) (c.len-next.ensures ∙ c.args.changes.now.ok.0)
          ∙ ap (cond (eq_by_cmp cell_cmp q y.cell) (Some (length xs))) (c.requires.found q)
          ∙ sym (place_push xs y q new);
      called = λ q there.
          called_more c.args.places.now y.cell q c.len-next.result _ c.requires.called (subst HasName c.cell-cell.ensures c.is_called.ensures) (next q) there;
    })

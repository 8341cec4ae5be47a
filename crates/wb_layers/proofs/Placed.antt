-- Where a change stands, and what it leaves.
use Rattle.std.proofs.Common.{◌≡◌, ℕ, zero, suc, ◌<◌, true, false, cond, ◌||◌, [], ◌∷◌, ◌++◌, length, get_or, slice_set, Option, Some, None, option_map, arith, IsSome, refl, sym, ap, subst, ◌∙◌}
use Rattle.std.specs.BTreeMap.{BTreeMap}
use Rattle.std.specs.BTreeMap as tree
use Rattle.std.specs.Ordering.{eq_by_cmp}
use Rattle.selective_undo.specs.declared.Change.{Change}
use Rattle.selective_undo.specs.Changes.{changes, AllOnce}
use Rattle.selective_undo.specs.Together.{left_in}
use Rattle.selective_undo.proofs.AllOrNothing.{tied}
use Rattle.selective_undo.proofs.Locality.{or_neither}
use Rattle.wb_cells.specs.declared.cells.cell.Cell.{Cell}
use Rattle.wb_cells.specs.declared.cells.value.Value.{Value}
use Rattle.wb_cells.specs.Cells.{Changes, cell_cmp, cell_order}
use Rattle.wb_cells.specs.Families.{HasName}
use Rattle.wb_layers.specs.Places.{place_in, AreCalled}

no_place : (o : Option ℕ) → option_map suc o ≡ None → o ≡ None
no_place None e = refl
no_place (Some p) e = cc

-- a cell that is not changed keeps what it had
pub left_in-keeps : (xs : Changes) (c : Cell) (v : Option Value) → changes cell_cmp xs c ≡ false → left_in cell_cmp xs c v ≡ v
left_in-keeps [] c v e = refl
left_in-keeps (x ∷ xs) c v e =
    let (first, rest) = or_neither (eq_by_cmp cell_cmp c x.cell) (changes cell_cmp xs c) e in
    rw first (left_in-keeps xs c v rest)

-- a cell without a place is not changed
pub place_none : (xs : Changes) (c : Cell) → place_in xs c ≡ None → changes cell_cmp xs c ≡ false
place_none [] c e = refl
place_none (x ∷ xs) c e =
    elim (eq_by_cmp cell_cmp c x.cell) as (λ b. cond b (Some 0) (option_map suc (place_in xs c)) ≡ None → b || changes cell_cmp xs c ≡ false) [
      | true ↦ λ h. cc
      | false ↦ λ h. place_none xs c (no_place (place_in xs c) h)
    ] e

-- What stands at the place of a cell.
pub record StandsAt (xs : Changes) (c : Cell) (p : ℕ) : Type 0 where
  pub low : p < length xs
  pub cell : (d : Change Cell Value) → (get_or xs p d).cell ≡ c
  pub value : AllOnce cell_cmp xs → (d : Change Cell Value) (v : Option Value) → left_in cell_cmp xs c v ≡ (get_or xs p d).value

pub stands_at : (xs : Changes) (c : Cell) (p : ℕ) → place_in xs c ≡ Some p → StandsAt xs c p
stands_at [] c p e = cc
stands_at (x ∷ xs) c p e =
    elim (eq_by_cmp cell_cmp c x.cell) as (λ b. eq_by_cmp cell_cmp c x.cell ≡ b → cond b (Some 0) (option_map suc (place_in xs c)) ≡ Some p → StandsAt (x ∷ xs) c p) [
      | true ↦ λ same h. here p same h
      | false ↦ λ other h. behind (place_in xs c) (λ q is. stands_at xs c q is) refl other h
    ] refl e
  where
    here : (p : ℕ) → eq_by_cmp cell_cmp c x.cell ≡ true → Some 0 ≡ Some p → StandsAt (x ∷ xs) c p
    here zero same h = record {
      low = omega arith;
      cell = λ d. sym (tied cell_order c x.cell same);
      value = λ once d v. rw same (left_in-keeps xs c x.value (ap (changes cell_cmp xs) (tied cell_order c x.cell same) ∙ once.0));
    }
    here (suc p) same h = cc

    behind : (o : Option ℕ) → ((q : ℕ) → place_in xs c ≡ Some q → StandsAt xs c q) → place_in xs c ≡ o → eq_by_cmp cell_cmp c x.cell ≡ false →
        option_map suc o ≡ Some p → StandsAt (x ∷ xs) c p
    behind None more is other h = cc
    behind (Some q) more is other h =
        let rest = more q is in
        let same : suc q ≡ p = cc in
        rw (← same) (record {
          low = omega (arith, rest.low);
          cell = rest.cell;
          value = λ once d v. rw other (rest.value once.1 d v);
        })

pub place_some : (xs : Changes) (c : Cell) (p : ℕ) → place_in xs c ≡ Some p → changes cell_cmp xs c ≡ true
place_some [] c p e = cc
place_some (x ∷ xs) c p e =
    elim (eq_by_cmp cell_cmp c x.cell) as (λ b. cond b (Some 0) (option_map suc (place_in xs c)) ≡ Some p → b || changes cell_cmp xs c ≡ true) [
      | true ↦ λ h. refl
      | false ↦ λ h. behind (place_in xs c) (λ q is. place_some xs c q is) refl h
    ] e
  where
    behind : (o : Option ℕ) → ((q : ℕ) → place_in xs c ≡ Some q → changes cell_cmp xs c ≡ true) → place_in xs c ≡ o → option_map suc o ≡ Some p →
        changes cell_cmp xs c ≡ true
    behind None more is h = cc
    behind (Some q) more is h = more q is

-- a change behind the others, of a cell that has no place yet
pub place_push : (xs : Changes) (y : Change Cell Value) (c : Cell) → place_in xs y.cell ≡ None →
    place_in (xs ++ y ∷ []) c ≡ cond (eq_by_cmp cell_cmp c y.cell) (Some (length xs)) (place_in xs c)
place_push [] y c e = refl
place_push (x ∷ xs) y c e =
    elim (eq_by_cmp cell_cmp y.cell x.cell) as (λ b. eq_by_cmp cell_cmp y.cell x.cell ≡ b → cond b (Some 0) (option_map suc (place_in xs y.cell)) ≡ None →
    place_in (x ∷ xs ++ y ∷ []) c ≡ cond (eq_by_cmp cell_cmp c y.cell) (Some (length (x ∷ xs))) (place_in (x ∷ xs) c)) [
      | true ↦ λ same h. cc
      | false ↦ λ other h. more other (place_push xs y c (no_place (place_in xs y.cell) h))
    ] refl e
  where
    more : eq_by_cmp cell_cmp y.cell x.cell ≡ false → place_in (xs ++ y ∷ []) c ≡ cond (eq_by_cmp cell_cmp c y.cell) (Some (length xs)) (place_in xs c) →
        place_in (x ∷ xs ++ y ∷ []) c ≡ cond (eq_by_cmp cell_cmp c y.cell) (Some (length (x ∷ xs))) (place_in (x ∷ xs) c)
    more other rest =
        ap (λ o. cond (eq_by_cmp cell_cmp c x.cell) (Some 0) (option_map suc o)) rest
        ∙ elim (eq_by_cmp cell_cmp c y.cell) as (λ b. eq_by_cmp cell_cmp c y.cell ≡ b →
        cond (eq_by_cmp cell_cmp c x.cell) (Some 0) (option_map suc (cond b (Some (length xs)) (place_in xs c)))
        ≡ cond b (Some (length (x ∷ xs))) (cond (eq_by_cmp cell_cmp c x.cell) (Some 0) (option_map suc (place_in xs c)))) [
          | true ↦ λ same. ap (λ b. cond b (Some 0) (Some (length (x ∷ xs)))) (ap (λ d. eq_by_cmp cell_cmp d x.cell) (tied cell_order c y.cell same) ∙ other)
          | false ↦ λ apart. refl
        ] refl

-- a change in the place of that of its cell
pub place_set : (xs : Changes) (y : Change Cell Value) (p : ℕ) (c : Cell) → place_in xs y.cell ≡ Some p → place_in (slice_set xs p y) c ≡ place_in xs c
place_set [] y p c e = cc
place_set (x ∷ xs) y p c e =
    elim (eq_by_cmp cell_cmp y.cell x.cell) as (λ b. eq_by_cmp cell_cmp y.cell x.cell ≡ b → cond b (Some 0) (option_map suc (place_in xs y.cell)) ≡ Some p →
    place_in (slice_set (x ∷ xs) p y) c ≡ place_in (x ∷ xs) c) [
      | true ↦ λ same h. here p same h
      | false ↦ λ other h. behind (place_in xs y.cell) (λ q is. place_set xs y q c is) refl h
    ] refl e
  where
    here : (p : ℕ) → eq_by_cmp cell_cmp y.cell x.cell ≡ true → Some 0 ≡ Some p → place_in (slice_set (x ∷ xs) p y) c ≡ place_in (x ∷ xs) c
    here zero same h = ap (λ d. cond (eq_by_cmp cell_cmp c d) (Some 0) (option_map suc (place_in xs c))) (tied cell_order y.cell x.cell same)
    here (suc p) same h = cc

    behind : (o : Option ℕ) → ((q : ℕ) → place_in xs y.cell ≡ Some q → place_in (slice_set xs q y) c ≡ place_in xs c) → place_in xs y.cell ≡ o →
        option_map suc o ≡ Some p → place_in (slice_set (x ∷ xs) p y) c ≡ place_in (x ∷ xs) c
    behind None more is h = cc
    behind (Some q) more is h =
        let same : suc q ≡ p = cc in
        rw (← same) (ap (λ o. cond (eq_by_cmp cell_cmp c x.cell) (Some 0) (option_map suc o)) (more q is))

-- one more cell has a place, and is called by a name
pub called_more : (m : BTreeMap Cell ℕ) (c q : Cell) (p : ℕ) (o : Option ℕ) → AreCalled m → HasName c →
    o ≡ cond (eq_by_cmp cell_cmp q c) (Some p) (tree.get cell_cmp m q) → IsSome o → HasName q
called_more m c q p o called name is there =
    elim (eq_by_cmp cell_cmp q c) as (λ b. eq_by_cmp cell_cmp q c ≡ b → IsSome (cond b (Some p) (tree.get cell_cmp m q)) → HasName q) [
      | true ↦ λ same h. subst HasName (sym (tied cell_order q c same)) name
      | false ↦ λ other h. called q h
    ] refl (subst (λ (x : Option ℕ). IsSome x) is there)

-- a cell that gets another place and then its own again
pub put_back : (c q : Cell) (next p : ℕ) (get : Cell → Option ℕ) (now : Option ℕ) → now ≡ cond (eq_by_cmp cell_cmp c q) (Some next) (get q) → get c ≡ Some p →
    cond (eq_by_cmp cell_cmp c q) (Some p) now ≡ get q
put_back c q next p get now is had =
    elim (eq_by_cmp cell_cmp c q) as (λ b. eq_by_cmp cell_cmp c q ≡ b → now ≡ cond b (Some next) (get q) → cond b (Some p) now ≡ get q) [
      | true ↦ λ same h. sym had ∙ ap get (tied cell_order c q same)
      | false ↦ λ other h. h
    ] refl is

-- The changes that set a cell, and what the cells that they set were before.
use Rattle.std.proofs.Common.{◌≡◌, ℕ, zero, suc, ◌+◌, ◌<◌, false, [], ◌∷◌, ◌++◌, length, get_or, take, Option, Some, None, refl, sym, ap, ◌∙◌, arith}
use Rattle.std.proofs.lemmas.List.{map-append, take_more}
use Rattle.std.specs.FinMap.{get}
use Rattle.std.specs.Ordering.{eq_by_cmp}
use Rattle.selective_undo.specs.declared.Change.{Change}
use Rattle.selective_undo.specs.Changes.{inverse, changes, AllOnce, sets}
use Rattle.selective_undo.proofs.Locality.{or_neither}
use Rattle.wb_cells.specs.declared.cells.cell.Cell.{Cell}
use Rattle.wb_cells.specs.declared.cells.value.Value.{Value}
use Rattle.wb_cells.specs.Cells.{Cells, Changes, cell_cmp}

none_set : (xs : Changes) (c : Cell) → changes cell_cmp xs c ≡ false → changes cell_cmp (sets xs) c ≡ false
none_set [] c e = refl
none_set (x ∷ xs) c e =
    let parts = or_neither (eq_by_cmp cell_cmp c x.cell) (changes cell_cmp xs c) e in
    let rest = none_set xs c parts.1 in
    elim x.value as (λ v. let y : Change Cell Value = record x { value = v } in changes cell_cmp (sets (y ∷ xs)) c ≡ false) [
      | Some v ↦ rw (parts.0, rest) refl
      | None ↦ rest
    ]

pub once_set : (xs : Changes) → AllOnce cell_cmp xs → AllOnce cell_cmp (sets xs)
once_set [] once = tt
once_set (x ∷ xs) once =
    elim x.value as (λ v. let y : Change Cell Value = record x { value = v } in AllOnce cell_cmp (sets (y ∷ xs))) [
      | Some v ↦ (none_set xs x.cell once.0, once_set xs once.1)
      | None ↦ once_set xs once.1
    ]

-- ---- one change

pub one_set : (x : Change Cell Value) (v : Value) → x.value ≡ Some v → sets (x ∷ []) ≡ x ∷ []
one_set x v is = ap (λ (o : Option Value). elim o as (λ _. Changes) [ Some w ↦ x ∷ [] | None ↦ [] ]) is

pub one_before : (x y : Change Cell Value) (v : Value) (c : Cell) (o : Option Value) (s : Cells) → x.value ≡ Some v → y ≡ record { cell = c; value = o } →
    c ≡ x.cell → o ≡ get s c → y ∷ [] ≡ inverse (sets (x ∷ [])) s
one_before x y v c o s is made same was =
    let told : Cell → Option Value → Changes = λ q u. (let z : Change Cell Value = record { cell = q; value = u } in z ∷ []) in
    ap (λ (z : Change Cell Value). z ∷ []) made
    ∙ ap (λ (q : Cell). told q o) same
    ∙ ap (told x.cell) (was ∙ ap (get s) same)
    ∙ sym (ap (λ (ys : Changes). inverse ys s) (one_set x v is))

other_at : (xs : Changes) (i : ℕ) (d : Change Cell Value) (c : Cell) → i < length xs → changes cell_cmp (sets xs) c ≡ false →
    changes cell_cmp (sets (get_or xs i d ∷ [])) c ≡ false
other_at [] i d c low e = absurd (omega (arith, low))
other_at (x ∷ xs) zero d c low e =
    elim x.value as (λ v. let y : Change Cell Value = record x { value = v } in
    changes cell_cmp (sets (y ∷ xs)) c ≡ false → changes cell_cmp (sets (y ∷ [])) c ≡ false) [
      | Some v ↦ λ h. rw ((or_neither (eq_by_cmp cell_cmp c x.cell) (changes cell_cmp (sets xs) c) h).0) refl
      | None ↦ λ h. refl
    ] e
other_at (x ∷ xs) (suc i) d c low e =
    let rest : changes cell_cmp (sets xs) c ≡ false =
    elim x.value as (λ v. let y : Change Cell Value = record x { value = v } in
    changes cell_cmp (sets (y ∷ xs)) c ≡ false → changes cell_cmp (sets xs) c ≡ false) [
      | Some v ↦ λ h. (or_neither (eq_by_cmp cell_cmp c x.cell) (changes cell_cmp (sets xs) c) h).1
      | None ↦ λ h. h
    ] e in
    other_at xs i d c (omega (arith, low)) rest

-- a cell that no change sets isn't set by one of them
pub other_set : (xs : Changes) (i : ℕ) (x : Change Cell Value) (c : Cell) → i < length xs → x ≡ get_or xs i x → changes cell_cmp (sets xs) c ≡ false →
    changes cell_cmp (sets (x ∷ [])) c ≡ false
other_set xs i x c low is e = ap (λ (y : Change Cell Value). changes cell_cmp (sets (y ∷ [])) c) is ∙ other_at xs i x c low e

-- ---- a loop over the changes

pub sets-append : (xs ys : Changes) → sets (xs ++ ys) ≡ sets xs ++ sets ys
sets-append [] ys = refl
sets-append (x ∷ xs) ys =
    elim x.value as (λ v. let y : Change Cell Value = record x { value = v } in sets (y ∷ (xs ++ ys)) ≡ sets (y ∷ xs) ++ sets ys) [
      | Some v ↦
          let y : Change Cell Value = record x { value = Some v } in
          ap (λ (zs : Changes). y ∷ zs) (sets-append xs ys)
      | None ↦ sets-append xs ys
    ]

-- Changes of a list behind those of another, each cell once.
use Rattle.std.proofs.Common.{◌≡◌, Bool, true, false, ◌||◌, [], ◌∷◌, ◌++◌, Result, Ok, Err, OnOk, OnErr, ap, refl, ◌∙◌}
use Rattle.std.specs.Cmp.{eq_by_cmp_equiv}
use Rattle.std.specs.Ordering.{eq_by_cmp}
use Rattle.selective_undo.specs.Changes.{changes, AllOnce}
use Rattle.selective_undo.proofs.Changes.{not_true}
use Rattle.wb_cells.specs.declared.cells.cell.Cell.{Cell}
use Rattle.wb_cells.specs.Cells.{Changes, cell_cmp, cell_order}

or_or : (a b c : Bool) → a || (b || c) ≡ (a || b) || c
or_or true b c = refl
or_or false b c = refl

or_later : (a b : Bool) → a || b ≡ false → b ≡ false
or_later true b h = cc
or_later false b h = h

or_first : (a b : Bool) → a ≡ true → a || b ≡ false → ⊥
or_first true b e h = cc
or_first false b e h = cc

changes_behind : (xs ys : Changes) (c : Cell) → changes cell_cmp (xs ++ ys) c ≡ changes cell_cmp xs c || changes cell_cmp ys c
changes_behind [] ys c = refl
changes_behind (x ∷ xs) ys c =
    ap (λ b. eq_by_cmp cell_cmp c x.cell || b) (changes_behind xs ys c)
    ∙ or_or (eq_by_cmp cell_cmp c x.cell) (changes cell_cmp xs c) (changes cell_cmp ys c)

-- each cell once, where the others change no cell of the list
once_behind : (xs ys : Changes) → AllOnce cell_cmp xs → AllOnce cell_cmp ys → ((c : Cell) → changes cell_cmp ys c ≡ true → changes cell_cmp xs c ≡ false) →
    AllOnce cell_cmp (xs ++ ys)
once_behind [] ys once more apart = more
once_behind (x ∷ xs) ys once more apart =
    let none : changes cell_cmp ys x.cell ≡ false =
    not_true _ λ h. or_first (eq_by_cmp cell_cmp x.cell x.cell) (changes cell_cmp xs x.cell) ((eq_by_cmp_equiv cell_order.total).refl x.cell) (apart x.cell h) in (
      changes_behind xs ys x.cell ∙ ap (λ b. b || changes cell_cmp ys x.cell) once.0 ∙ none,
      once_behind xs ys once.1 more (λ c h. or_later (eq_by_cmp cell_cmp c x.cell) (changes cell_cmp xs c) (apart c h)),
    )

-- changes were added behind others, or none was
pub once_added : {E : Type 0} (r : Result (Unit {0}) E) (xs ys zs : Changes) → OnOk r (zs ≡ xs ++ ys) → OnErr r (zs ≡ xs) → AllOnce cell_cmp xs →
    AllOnce cell_cmp ys → ((c : Cell) → changes cell_cmp ys c ≡ true → changes cell_cmp xs c ≡ false) → AllOnce cell_cmp zs
once_added (Ok u) xs ys zs ok err once more apart = rw ok (once_behind xs ys once more apart)
once_added (Err e) xs ys zs ok err once more apart = rw err once

-- Lists of looks, each at one cell after another.
use Rattle.std.proofs.Common.{◌≡◌, ℕ, zero, suc, ◌+◌, ◌<◌, true, List, [], ◌∷◌, ◌++◌, take, length, get_or, Some, slice_get, arith, sym, ap, subst, ◌∙◌}
use Rattle.std.proofs.Common.{append_assoc}
use Rattle.std.specs.Ordering.{eq_by_cmp}
use Rattle.std.proofs.lemmas.List.{append-nil}
use Rattle.selective_undo.specs.declared.Change.{Change}
use Rattle.wb_cells.specs.declared.cells.cell.Cell.{Cell}
use Rattle.wb_cells.specs.declared.cells.pattern.Pattern.{Pattern}
use Rattle.wb_cells.specs.declared.cells.pattern.Pattern.TheVariants.{One}
use Rattle.wb_cells.specs.declared.cells.value.Value.{Value}
use Rattle.wb_cells.specs.Cells.{Changes, cell_cmp}
use Rattle.wb_cells.specs.Reads.{patterns_of}
use Rattle.wb_log.specs.Sets.{each_read}
use Rattle.wb_log.proofs.Numbers.{same_cell}

-- ---- one more of a list

take_more : {X : Type 0} (xs : List X) (k : ℕ) (x : X) → slice_get xs k ≡ Some x → take (suc k) xs ≡ take k xs ++ x ∷ []
take_more [] k x e = cc
take_more (y ∷ xs) zero x e = let h : y ≡ x = cc in ap (λ z. z ∷ []) h
take_more (y ∷ xs) (suc k) x e = ap (λ l. y ∷ l) (take_more xs k x e)

take_two : {X : Type 0} (xs : List X) (k : ℕ) (x y : X) → slice_get xs k ≡ Some x → slice_get xs (suc k) ≡ Some y →
    take (suc (suc k)) xs ≡ take k xs ++ x ∷ y ∷ []
take_two xs k x y ex ey = take_more xs (suc k) y ey ∙ ap (λ l. l ++ y ∷ []) (take_more xs k x ex) ∙ append_assoc (take k xs) (x ∷ []) (y ∷ [])

-- ---- looks

-- one more look, with the one before it
each_more : (ps : List Pattern) (xs : Changes) (k : ℕ) (x : Change Cell Value) → slice_get xs k ≡ Some x →
    each_read ps (take (suc k) xs) ≡ each_read ps (take k xs) ++ (ps ++ One x.cell ∷ [])
each_more ps [] k x e = cc
each_more ps (y ∷ xs) zero x e = let h : y ≡ x = cc in append-nil (ps ++ One y.cell ∷ []) ∙ ap (λ z. ps ++ One z.cell ∷ []) h
each_more ps (y ∷ xs) (suc k) x e = ap (λ l. (ps ++ One y.cell ∷ []) ++ l) (each_more ps xs k x e) ∙
    sym (append_assoc (ps ++ One y.cell ∷ []) (each_read ps (take k xs)) (ps ++ One x.cell ∷ []))

-- the two patterns of one more cell
pub two_more : (all : List Pattern) (before : Cell) (xs : Changes) (k : ℕ) (x : Change Cell Value) → slice_get xs k ≡ Some x →
    slice_get all (k + k) ≡ Some (One before) → slice_get all (k + k + 1) ≡ Some (One x.cell) →
    take (k + k) all ≡ each_read (One before ∷ []) (take k xs) → take (k + 1 + (k + 1)) all ≡ each_read (One before ∷ []) (take (k + 1) xs)
two_more all before xs k x is first second same =
    let next : k + k + 1 ≡ suc (k + k) = omega arith in
    let both : suc (suc (k + k)) ≡ k + 1 + (k + 1) = omega arith in
    let one : suc k ≡ k + 1 = omega arith in
    subst (λ (n : ℕ). take n all ≡ each_read (One before ∷ []) (take (k + 1) xs)) both
    (subst (λ (n : ℕ). take (suc (suc (k + k))) all ≡ each_read (One before ∷ []) (take n xs)) one (
    take_two all (k + k) (One before) (One x.cell) first (subst (λ (n : ℕ). slice_get all n ≡ Some (One x.cell)) next second)
    ∙ ap (λ l. l ++ One before ∷ One x.cell ∷ []) same
    ∙ sym (each_more (One before ∷ []) xs k x is)
    ))

-- the pattern of a cell, by its place
listed : (xs : Changes) (j : ℕ) (d : Change Cell Value) (c : Cell) → j < length xs → eq_by_cmp cell_cmp (get_or xs j d).cell c ≡ true →
    slice_get (patterns_of xs) j ≡ Some (One c)
listed [] j d c low e = absurd (omega (arith, low))
listed (x ∷ xs) zero d c low e = ap (λ (y : Cell). Some (One y)) (same_cell x.cell c e)
listed (x ∷ xs) (suc j) d c low e = listed xs j d c (omega (arith, low)) e

pub at_behind : (ps : List Pattern) (xs : Changes) (at j : ℕ) (d : Change Cell Value) (c : Cell) → at ≡ length ps + j → j < length xs →
    eq_by_cmp cell_cmp (get_or xs j d).cell c ≡ true → slice_get (ps ++ patterns_of xs) at ≡ Some (One c)
at_behind [] xs at j d c is low e =
    let here : j ≡ at = omega (arith, is) in
    subst (λ (k : ℕ). slice_get (patterns_of xs) k ≡ Some (One c)) here (listed xs j d c low e)
at_behind (p ∷ ps) xs zero j d c is low e = absurd (omega (arith, is))
at_behind (p ∷ ps) xs (suc at) j d c is low e = at_behind ps xs at j d c (omega (arith, is)) low e

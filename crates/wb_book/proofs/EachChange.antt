-- A list of changes that is gone through one by one.
use Rattle.std.proofs.Common.{◌≡◌, ℕ, ◌+◌, ◌<◌, zero, suc, Bool, true, false, ◌&&◌, [], ◌∷◌, ◌++◌, length, take, get_or, refl, sym, ap, ◌∙◌, arith}
use Rattle.std.specs.List.{list_all}
use Rattle.std.proofs.lemmas.List.{take_more}
use Rattle.std.proofs.lemmas.List.Folds.{list_all-append}
use Rattle.selective_undo.specs.declared.Change.{Change}
use Rattle.selective_undo.specs.Changes.{applied, apply}
use Rattle.wb_cells.specs.declared.cells.cell.Cell.{Cell}
use Rattle.wb_cells.specs.declared.cells.value.Value.{Value}
use Rattle.wb_cells.specs.Cells.{Cells, Changes}
use Rattle.wb_book.proofs.ElementsSet.{both_true}
use Rattle.wb_book.proofs.EntriesSet.{apply-append}

-- the changes up to and with one
pub one_more : (xs : Changes) (k : ℕ) (x : Change Cell Value) → k < length xs → x ≡ get_or xs k x → take (k + 1) xs ≡ take k xs ++ x ∷ []
one_more xs k x low is = take_more xs k x low ∙ ap (λ (y : Change Cell Value). take k xs ++ y ∷ []) (sym is)

-- where all pass, each does
pub one_passes : (p : Change Cell Value → Bool) (xs : Changes) (k : ℕ) (x : Change Cell Value) → k < length xs → x ≡ get_or xs k x →
    list_all p xs ≡ true → p x ≡ true
one_passes p [] k x low is all = absurd (omega (arith, low))
one_passes p (y ∷ xs) zero x low is all = ap p is ∙ (both_true (p y) (list_all p xs) all).0
one_passes p (y ∷ xs) (suc k) x low is all = one_passes p xs k x (omega (arith, low)) is (both_true (p y) (list_all p xs) all).1

-- where one doesn't pass, not all do
pub one_fails : (p : Change Cell Value → Bool) (xs : Changes) (k : ℕ) (x : Change Cell Value) → k < length xs → x ≡ get_or xs k x →
    p x ≡ false → list_all p xs ≡ false
one_fails p xs k x low is fails = by (list_all p xs) refl
  where
    by : (b : Bool) → list_all p xs ≡ b → b ≡ false
    by false e = refl
    by true e = let passes : p x ≡ true = one_passes p xs k x low is e in cc

-- up to and with one all pass
pub pass_one : (p : Change Cell Value → Bool) (xs : Changes) (k : ℕ) (x : Change Cell Value) → k < length xs → x ≡ get_or xs k x →
    list_all p (take k xs) ≡ true → p x ≡ true → list_all p (take (k + 1) xs) ≡ true
pass_one p xs k x low is all here =
    ap (list_all p) (one_more xs k x low is) ∙ list_all-append p (take k xs) (x ∷ [])
    ∙ ap (λ (b : Bool). b && (p x && true)) all ∙ ap (λ (b : Bool). b && true) here

pub apply_one_more : (xs : Changes) (k : ℕ) (x : Change Cell Value) (s : Cells) → k < length xs → x ≡ get_or xs k x →
    apply (take (k + 1) xs) s ≡ applied x (apply (take k xs) s)
apply_one_more xs k x s low is =
    ap (λ (ys : Changes). apply ys s) (one_more xs k x low is) ∙ apply-append (take k xs) (x ∷ []) s

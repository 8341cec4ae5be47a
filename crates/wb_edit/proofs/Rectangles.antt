-- Looks at many cells.
use Rattle.std.proofs.Common.{◌≡◌, ℕ, zero, suc, ◌+◌, ◌≤◌, arith, Bool, true, false, ◌&&◌, ◌||◌, List, [], ◌∷◌, ◌++◌, map, take, length, Option, Some, is_some}
use Rattle.std.proofs.Common.{slice_get, refl, sym, ap, ◌∙◌, append_assoc, append-nil, add-one}
use Rattle.std.proofs.lemmas.List.Folds.{list_any-append}
use Rattle.std.specs.FinMap.{get}
use Rattle.std.specs.List.{list_all, list_any}
use Rattle.selective_undo.specs.Edit.{reads}
use Rattle.wb_cells.specs.declared.cells.cell.Cell.{Cell}
use Rattle.wb_cells.specs.declared.cells.pattern.Pattern.{Pattern}
use Rattle.wb_cells.specs.declared.cells.value.Value.{Value}
use Rattle.wb_cells.specs.declared.values.index.Index.{Index}
use Rattle.wb_cells.specs.Cells.{Cells}
use Rattle.wb_edit.specs.Plans.{Gives}
use Rattle.wb_cells.specs.Reads.{one_of}
use Rattle.wb_edit.specs.Rectangles.{read_all}
use Rattle.wb_edit.proofs.IndexedRows.{take_more, map-append}
use Rattle.wb_edit.proofs.Trees.{gives_read}

-- all of a list
pub whole : {X : Type 0} (xs : List X) (n : ℕ) → length xs ≤ n → take n xs ≡ xs
whole [] zero low = refl
whole [] (suc n) low = refl
whole (x ∷ xs) zero low = absurd (omega (arith, low))
whole (x ∷ xs) (suc n) low = ap (λ ys. x ∷ ys) (whole xs n (omega (arith, low)))

-- a look at many cells shows what each holds
pub gives_all : (s : Cells) (cs : List Cell) (rs : List Pattern) → Gives (read_all cs) s rs (map (get s) cs) (rs ++ map one_of cs)
gives_all s [] rs = λ next. (refl, ap (λ ps. ps ++ reads (next []) s) (sym (append-nil rs)))
gives_all s (c ∷ cs) rs = λ next.
    let h = gives_read s c (get s c) rs refl (λ v. read_all cs (λ vs. next (v ∷ vs))) in
    let k = gives_all s cs (rs ++ one_of c ∷ []) (λ vs. next (get s c ∷ vs)) in
    (h.0 ∙ k.0, h.1 ∙ k.1 ∙ ap (λ ps. ps ++ reads (next (get s c ∷ map (get s) cs)) s) (append_assoc rs (one_of c ∷ []) (map one_of cs)))

and-assoc : (a b d : Bool) → (a && (b && d)) ≡ ((a && b) && d)
and-assoc true b d = refl
and-assoc false b d = refl

list_all-last : (vs : List (Option Value)) (v : Option Value) → list_all is_some (vs ++ v ∷ []) ≡ (list_all is_some vs && is_some v)
list_all-last [] v = elim (is_some v) as (λ b. (b && true) ≡ b) [ true ↦ refl | false ↦ refl ]
list_all-last (w ∷ vs) v = ap (λ b. is_some w && b) (list_all-last vs v) ∙ and-assoc (is_some w) (list_all is_some vs) (is_some v)

-- one more element that a test is asked of
pub each_more : {X : Type 0} (test : X → Bool) (xs : List X) (p : ℕ) (x : X) → slice_get xs p ≡ Some x →
    list_all test (take (p + 1) xs) ≡ (list_all test (take p xs) && test x)
each_more test xs p x here =
    ap (λ n. list_all test (take n xs)) (add-one p) ∙ ap (list_all test) (take_more xs p x here) ∙ last (take p xs)
  where
    last : (ys : List _) → list_all test (ys ++ x ∷ []) ≡ (list_all test ys && test x)
    last [] = elim (test x) as (λ b. (b && true) ≡ b) [ true ↦ refl | false ↦ refl ]
    last (y ∷ ys) = ap (λ b. test y && b) (last ys) ∙ and-assoc (test y) (list_all test ys) (test x)

or-false : (b : Bool) → (b || false) ≡ b
or-false true = refl
or-false false = refl

module _ (f : Index → Cell) (is : List Index) (p : ℕ) (i : Index) (here : slice_get is p ≡ Some i) where
  cells_more : map f (take (p + 1) is) ≡ map f (take p is) ++ f i ∷ []
  cells_more = ap (λ n. map f (take n is)) (add-one p) ∙ ap (map f) (take_more is p i here) ∙ map-append f (take p is) (i ∷ [])

  -- one more index
  pub reads_more : (rs : List Pattern) → rs ++ map one_of (map f (take (p + 1) is)) ≡ (rs ++ map one_of (map f (take p is))) ++ one_of (f i) ∷ []
  reads_more rs =
      ap (λ cs. rs ++ map one_of cs) cells_more
      ∙ ap (λ ps. rs ++ ps) (map-append one_of (map f (take p is)) (f i ∷ []))
      ∙ sym (append_assoc rs (map one_of (map f (take p is))) (one_of (f i) ∷ []))

  pub all_more : (s : Cells) → list_all is_some (map (get s) (map f (take (p + 1) is))) ≡
      (list_all is_some (map (get s) (map f (take p is))) && is_some (get s (f i)))
  all_more s =
      ap (λ cs. list_all is_some (map (get s) cs)) cells_more
      ∙ ap (list_all is_some) (map-append (get s) (map f (take p is)) (f i ∷ []))
      ∙ list_all-last (map (get s) (map f (take p is))) (get s (f i))

  pub any_more : (s : Cells) → list_any is_some (map (get s) (map f (take (p + 1) is))) ≡
      (list_any is_some (map (get s) (map f (take p is))) || is_some (get s (f i)))
  any_more s =
      ap (λ cs. list_any is_some (map (get s) cs)) cells_more
      ∙ ap (list_any is_some) (map-append (get s) (map f (take p is)) (f i ∷ []))
      ∙ list_any-append is_some (map (get s) (map f (take p is))) (get s (f i) ∷ [])
      ∙ ap (λ b. list_any is_some (map (get s) (map f (take p is))) || b) (or-false (is_some (get s (f i))))

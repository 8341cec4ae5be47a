-- The elements with the changes of a list made, one after another: the last of them is made last.
use Rattle.std.proofs.Common.{◌≡◌, ℕ, ◌+◌, ◌<◌, ℤ, List, [], ◌∷◌, ◌++◌, length, take, get_or, Option, refl, sym, ap, ◌∙◌}
use Rattle.std.proofs.lemmas.List.{take_more}
use Rattle.wb_cells.specs.declared.values.index.Index.{Index}
use Rattle.wb_elements.specs.Entries.{with_one, with_all}

module _ {I : Type 0} (f : I → Index) where
  pub with_all-last : (xs : List (I × Option ℤ)) (x : I × Option ℤ) (es : List (Index × ℤ)) →
      with_all f es (xs ++ x ∷ []) ≡ with_one (with_all f es xs) (f x.0) x.1
  with_all-last [] x es = refl
  with_all-last (y ∷ xs) x es = with_all-last xs x (with_one es (f y.0) y.1)

  pub with_all-more : (xs : List (I × Option ℤ)) (k : ℕ) (x : I × Option ℤ) (es : List (Index × ℤ)) → k < length xs → x ≡ get_or xs k x →
      with_all f es (take (k + 1) xs) ≡ with_one (with_all f es (take k xs)) (f x.0) x.1
  with_all-more xs k x es low is =
      ap (with_all f es) (take_more xs k x low ∙ ap (λ (y : I × Option ℤ). take k xs ++ y ∷ []) (sym is)) ∙ with_all-last (take k xs) x es

-- The reduction of elements, whatever their keys stand for.
use Rattle.std.proofs.Common.{◌≡◌, ℤ, List, [], ◌∷◌, Result, refl, ap}
use Rattle.wb_cells.specs.declared.values.index.Index.{Index}
use Rattle.wb_elements.specs.Piecewise.Indexed.{indexed}
use Rattle.wb_arrays.specs.declared.reduction.Op.{Op}
use Rattle.wb_arrays.specs.declared.reduction.Op.TheVariants.{Sum, Min, Max}
use Rattle.wb_arrays.specs.declared.reduction.ReduceErr.{ReduceErr}
use Rattle.wb_arrays.specs.Reductions.{elements_of, IsReduced}

module _ {I : Type 0} (f : I → Index) where
  elements-indexed : (es : List (I × ℤ)) → elements_of (indexed f es) ≡ elements_of es
  elements-indexed [] = refl
  elements-indexed (e ∷ es) = ap (λ xs. e.1 ∷ xs) (elements-indexed es)

  pub reduced-indexed : (op : Op) (es : List (I × ℤ)) (r : Result ℤ ReduceErr) → IsReduced op es r → IsReduced op (indexed f es) r
  reduced-indexed Sum es r h = rw (elements-indexed es) h
  reduced-indexed Min es r h = rw (elements-indexed es) h
  reduced-indexed Max es r h = rw (elements-indexed es) h

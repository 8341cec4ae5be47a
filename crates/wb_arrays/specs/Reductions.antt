-- Reductions of the elements of an array.
use Rattle.std.specs.Prelude.{◌≡◌, ℕ, zero, suc, ℤ, pos, ◌+ℤ◌, List, [], ◌∷◌, map, Option, Some, None, Result, Ok, Err, OkIff, IfErr, MatchOption, FitsSigned}
use Rattle.std.specs.List.{fold, reduce}
use Rattle.std.specs.Int.{w64, w128, int_wrap, int_min, int_max}
use Rattle.wb_arrays.specs.Pieces.{piece_of}
use Rattle.wb_arrays.specs.declared.reduction.Op.{Op}
use Rattle.wb_arrays.specs.declared.reduction.Op.TheVariants.{Sum, Min, Max}
use Rattle.wb_arrays.specs.declared.reduction.ReduceErr.{ReduceErr}
use Rattle.wb_arrays.specs.declared.reduction.ReduceErr.TheVariants.{Empty, Overflow}

-- the elements of pairs of index and element
abbrev pub elements_of : {I : Type 0} → List (I × ℤ) → List ℤ
elements_of es = map (λ e. e.1) es

-- what an operation makes of two integers
abbrev pub op_of : Op → ℤ → ℤ → ℤ
op_of Sum a b = a +ℤ b
op_of Min a b = int_min a b
op_of Max a b = int_max a b

-- the reduction of all elements: the sum of none is 0, and none have no least and no greatest one (Chapel Language Specification, Reductions and Scans)
abbrev pub reduction : {I : Type 0} → Op → List (I × ℤ) → Option ℤ
reduction Sum es = Some (fold ◌+ℤ◌ (pos 0) (elements_of es))
reduction Min es = reduce int_min (elements_of es)
reduction Max es = reduce int_max (elements_of es)

-- The answer to a reduction: its value where that is an integer of 64 bits. A sum is judged once, as a whole.
abbrev pub IsReduced : {I : Type 0} → Op → List (I × ℤ) → Result ℤ ReduceErr → Type 0
IsReduced op es r = MatchOption (reduction op es) (r ≡ Err Empty) (λ s. OkIff r (FitsSigned w64 s) s × IfErr r (λ e. e ≡ Overflow))

-- the answer where there is no element
abbrev pub of_nothing : Op → Result ℤ ReduceErr
of_nothing Sum = Ok (pos 0)
of_nothing Min = Err Empty
of_nothing Max = Err Empty

-- the same of two integers in 128 bits, where sums wrap
abbrev pub op_in_128 : Op → ℤ → ℤ → ℤ
op_in_128 Sum a b = int_wrap w128 (a +ℤ b)
op_in_128 Min a b = int_min a b
op_in_128 Max a b = int_max a b

-- what it makes of the results of two parts, of which each may have no element
abbrev pub joined_in_128 : Op → Option ℤ → Option ℤ → Option ℤ
joined_in_128 op None b = b
joined_in_128 op (Some a) None = Some a
joined_in_128 op (Some a) (Some b) = Some (op_in_128 op a b)

-- what it makes of the pieces of the first n locales
abbrev pub of_locales_in_128 : {I : Type 0} → Op → (locale : I → ℕ) → List (I × ℤ) → (n : ℕ) → Option ℤ
of_locales_in_128 op locale es zero = None
of_locales_in_128 op locale es (suc n) = joined_in_128 op (of_locales_in_128 op locale es n) (reduce (op_in_128 op) (elements_of (piece_of locale es n)))

-- each element is an i64
abbrev pub AreSmall : {I : Type 0} → List (I × ℤ) → Type 0
AreSmall [] = Unit {0}
AreSmall (e ∷ es) = FitsSigned w64 e.1 × AreSmall es

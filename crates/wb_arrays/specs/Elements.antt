-- The elements of an array, as a list of pairs of index and element that is read by a look-up, and what becomes of them when the domain changes.
use Rattle.std.specs.Prelude.{◌≡◌, ℤ, pos, true, cond, ◌&&◌, not, is_some, filter, List, Option, Some, None}
use Rattle.std.specs.declared.cmp.Ordering.{Ordering}
use Rattle.std.specs.Map.{lookup}
use Rattle.std.specs.BTreeMap.{is_at}
use Rattle.wb_range.specs.Lookup.{has}

-- the element at an index
abbrev pub value_at : {I : Type 0} → (I → I → Ordering) → List (I × ℤ) → I → Option ℤ
value_at cmp es q = lookup (is_at (cmp q)) es

-- there are elements at exactly these indices
abbrev pub HoldsExactly : {I : Type 0} → (I → I → Ordering) → List (I × ℤ) → List I → Type 0
HoldsExactly {I} cmp es xs = (q : I) → is_some (value_at cmp es q) ≡ has cmp xs q

-- the element 0 at each index (Chapel Language Specification, "Arrays": an array of integers starts with zeros)
abbrev pub zeros : {I : Type 0} → (I → I → Ordering) → List I → I → Option ℤ
zeros cmp xs q = cond (has cmp xs q) (Some (pos 0)) None

-- the elements after the domain is assigned (Chapel Language Specification, "Arrays"): indices of both domains keep theirs, those of the new one alone get z
abbrev pub reallocated : {I : Type 0} → (I → I → Ordering) → List (I × ℤ) → (old new : List I) → ℤ → I → Option ℤ
reallocated cmp es old new z q = cond (has cmp new q) (cond (has cmp old q) (value_at cmp es q) (Some z)) None

-- the pairs whose index isn't among xs
abbrev pub left_out : {I : Type 0} → (I → I → Ordering) → List (I × ℤ) → List I → List (I × ℤ)
left_out cmp es xs = filter (λ e. not (has cmp xs e.0)) es

-- there are pairs at exactly the indices of the old domain that the new one doesn't have
abbrev pub HoldsDropped : {I : Type 0} → (I → I → Ordering) → List (I × ℤ) → (old new : List I) → Type 0
HoldsDropped {I} cmp ds old new = (q : I) → is_some (value_at cmp ds q) ≡ (has cmp old q && not (has cmp new q))

-- the elements after an assignment of the domain is taken back: indices of both domains keep theirs, the dropped pairs are there again
abbrev pub restored : {I : Type 0} → (I → I → Ordering) → (es dropped : List (I × ℤ)) → (old new : List I) → I → Option ℤ
restored cmp es ds old new q = cond (has cmp old q) (cond (has cmp new q) (value_at cmp es q) (value_at cmp ds q)) None

-- where both lists have an element, it is the same
abbrev pub AgreeOnCommon : {I : Type 0} → (I → I → Ordering) → (es fs : List (I × ℤ)) → Type 0
AgreeOnCommon {I} cmp es fs = (q : I) → is_some (value_at cmp es q) ≡ true → is_some (value_at cmp fs q) ≡ true → value_at cmp fs q ≡ value_at cmp es q

-- The product of ranges that go upward ascends.
use Rattle.std.proofs.Common.{◌≡◌, ℕ, suc, ◌<◌, ℤ, ◌<ℤ◌, List, [], ◌∷◌, ◌++◌, map, length, get_or, refl, sym, ap, ◌∙◌, arith}
use Rattle.std.specs.Cmp.{int_cmp_is}
use Rattle.std.specs.List.{AllPairs, AllByRecursion}
use Rattle.std.specs.List.Sorted.{IsStrictlySortedBy}
use Rattle.std.specs.Ordering.{int_cmp, ordering_then}
use Rattle.std.specs.declared.cmp.Ordering.TheVariants.{Less, Equal}
use Rattle.wb_rect.specs.Product.{rows, product}
use Rattle.wb_footprints.specs.Points.{Coordinates, point_cmp}

-- ---- one range

all_above : (x : ℤ) (xs : List ℤ) → ((k : ℕ) (d : ℤ) → k < length xs → x <ℤ get_or xs k d) → AllByRecursion (λ y. int_cmp x y ≡ Less) xs
all_above x [] h = tt
all_above x (y ∷ ys) h = (sym (int_cmp_is x y Less (h 0 y (omega arith))), all_above x ys (λ k d l. h (suc k) d (omega arith)))

sorted_upward : (xs : List ℤ) → AllPairs (λ i j. i <ℤ j) xs → IsStrictlySortedBy int_cmp xs
unfolding IsStrictlySortedBy
sorted_upward [] h = tt
sorted_upward (x ∷ xs) h = (
  all_above x xs (λ k d l. h 0 (suc k) d (omega arith) (omega arith)),
  sorted_upward xs (λ i j d l m. h (suc i) (suc j) d (omega arith) (omega arith)),
)

-- ---- one list after another

all_append : {X : Type 0} (P : X → Type 0) (xs ys : List X) → AllByRecursion P xs → AllByRecursion P ys → AllByRecursion P (xs ++ ys)
all_append P [] ys p q = q
all_append P (x ∷ xs) ys p q = (p.0, all_append P xs ys p.1 q)

sorted_append : (xs ys : List Coordinates) → IsStrictlySortedBy point_cmp xs → IsStrictlySortedBy point_cmp ys →
    AllByRecursion (λ x. AllByRecursion (λ y. point_cmp x y ≡ Less) ys) xs → IsStrictlySortedBy point_cmp (xs ++ ys)
unfolding IsStrictlySortedBy
sorted_append [] ys s t h = t
sorted_append (x ∷ xs) ys s t h = (all_append (λ y. point_cmp x y ≡ Less) xs ys s.0 h.0, sorted_append xs ys s.1 t h.1)

-- ---- the points of one row

same_first : (x : ℤ) (t u : Coordinates) → point_cmp (x ∷ t) (x ∷ u) ≡ point_cmp t u
same_first x t u = ap (λ o. ordering_then o (point_cmp t u)) (sym (int_cmp_is x x Equal refl))

first_below : (x : ℤ) (t : Coordinates) (us : List Coordinates) → AllByRecursion (λ u. point_cmp t u ≡ Less) us →
    AllByRecursion (λ u. point_cmp (x ∷ t) u ≡ Less) (map (λ u. x ∷ u) us)
first_below x t [] h = tt
first_below x t (u ∷ us) h = (same_first x t u ∙ h.0, first_below x t us h.1)

sorted_row : (x : ℤ) (ts : List Coordinates) → IsStrictlySortedBy point_cmp ts → IsStrictlySortedBy point_cmp (map (λ t. x ∷ t) ts)
unfolding IsStrictlySortedBy
sorted_row x [] s = tt
sorted_row x (t ∷ ts) s = (first_below x t ts s.0, sorted_row x ts s.1)

-- ---- one row below the next ones

row_below : (x : ℤ) (t : Coordinates) (y : ℤ) (us : List Coordinates) → int_cmp x y ≡ Less →
    AllByRecursion (λ u. point_cmp (x ∷ t) u ≡ Less) (map (λ u. y ∷ u) us)
row_below x t y [] e = tt
row_below x t y (u ∷ us) e = (ap (λ o. ordering_then o (point_cmp t u)) e, row_below x t y us e)

rows_below : (x : ℤ) (t : Coordinates) (ys : List ℤ) (us : List Coordinates) → AllByRecursion (λ y. int_cmp x y ≡ Less) ys →
    AllByRecursion (λ u. point_cmp (x ∷ t) u ≡ Less) (rows ys us)
rows_below x t [] us h = tt
rows_below x t (y ∷ ys) us h =
    all_append (λ u. point_cmp (x ∷ t) u ≡ Less) (map (λ u. y ∷ u) us) (rows ys us) (row_below x t y us h.0) (rows_below x t ys us h.1)

each_below : (x : ℤ) (ys : List ℤ) (us ts : List Coordinates) → AllByRecursion (λ y. int_cmp x y ≡ Less) ys →
    AllByRecursion (λ p. AllByRecursion (λ u. point_cmp p u ≡ Less) (rows ys us)) (map (λ t. x ∷ t) ts)
each_below x ys us [] h = tt
each_below x ys us (t ∷ ts) h = (rows_below x t ys us h, each_below x ys us ts h)

sorted_rows : (xs : List ℤ) (ts : List Coordinates) → IsStrictlySortedBy int_cmp xs → IsStrictlySortedBy point_cmp ts →
    IsStrictlySortedBy point_cmp (rows xs ts)
unfolding IsStrictlySortedBy
sorted_rows [] ts s t = tt
sorted_rows (x ∷ xs) ts s t =
    sorted_append (map (λ u. x ∷ u) ts) (rows xs ts) (sorted_row x ts t) (sorted_rows xs ts s.1 t) (each_below x xs ts ts s.0)

one_point : IsStrictlySortedBy point_cmp ([] ∷ [])
unfolding IsStrictlySortedBy
one_point = (tt, tt)

-- the product of ranges that go upward ascends
pub sorted_product : (rs : List (List ℤ)) → ((p : ℕ) → p < length rs → AllPairs (λ i j. i <ℤ j) (get_or rs p [])) → IsStrictlySortedBy point_cmp (product rs)
sorted_product [] h = one_point
sorted_product (xs ∷ rs) h =
    sorted_rows xs (product rs) (sorted_upward xs (h 0 (omega arith))) (sorted_product rs (λ p l. h (suc p) (omega arith)))

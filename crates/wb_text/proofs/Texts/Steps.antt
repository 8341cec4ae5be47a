-- One more step of the loops that put cells into a map.
use Rattle.std.proofs.Common.{◌≡◌, ℕ, zero, suc, ◌<◌, ◌+◌, List, [], ◌∷◌, map, drop, length, get_or, Ordering, sym, ap, ◌∙◌, add-one, drop-cons, arith}
use Rattle.std.specs.FinMap.{FinMap, insert}
use Rattle.std.specs.List.{zip}
use Rattle.wb_text.specs.FromLines.Inserted.{inserted}

-- one more of the pairs that a loop puts in
pub put_more : {K V : Type 0} {order : K → K → Ordering} {I : Type 0} (g : I → K × V) (is : List I) (p : ℕ) (i : I) (s t r : FinMap order V) → p < length is →
    i ≡ get_or is p i → t ≡ insert s (g i).0 (g i).1
    → inserted (map g (drop p is)) s ≡ r → inserted (map g (drop (p + 1) is)) t ≡ r
put_more g is p i s t r low this made ahead =
    rw (add-one)
    (ap (λ m. inserted (map g (drop (suc p) is)) m) (made ∙ ap (λ j. insert s (g j).0 (g j).1) this)
    ∙ ap (λ js. inserted (map g js) s) (sym (drop-cons is p i low)) ∙ ahead)

-- an element beside its index
pub pair_at : {I W : Type 0} (is : List I) (xs : List W) (p : ℕ) (i : I) (d x : W) → p < length is → length is ≡ length xs → i ≡ get_or is p i →
    x ≡ get_or xs p d → (i, x) ≡ get_or (zip is xs) p (i, x)
pair_at [] xs p i d x low e f g = absurd (omega arith)
pair_at (j ∷ is) [] p i d x low e f g = absurd (omega (arith, e))
pair_at (j ∷ is) (y ∷ xs) zero i d x low e f g = cc
pair_at (j ∷ is) (y ∷ xs) (suc p) i d x low e f g = pair_at is xs p i d x (omega arith) (omega (arith, e)) f g

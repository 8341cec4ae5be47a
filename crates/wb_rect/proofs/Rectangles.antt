-- slices and shifts of rectangles are rectangles
use Rattle.std.proofs.Common.{◌≡◌, inl, inr, ℕ, suc, ◌*◌, ◌<◌, ◌≤◌, ℤ, pos, ◌+ℤ◌, Bool, List, [], ◌∷◌, length, get_or, refl, sym, ap₂, subst, ◌∙◌, arith}
use Rattle.std.specs.List.{All}
use Rattle.std.proofs.Math.Nat.{mul-le-mul}
use Rattle.std.proofs.lemmas.Int.{ints}
use Rattle.std.proofs.lemmas.List.Elements.{All-nil, All-cons, All-head, All-tail}
use Rattle.wb_range.specs.Canonical.{IsRange}
use Rattle.wb_range.specs.Domain.{IsListedOnce}
use Rattle.wb_range.proofs.Places.{IsListedOnce-steps}
use Rattle.wb_range.proofs.Spelling.{is_range}
use Rattle.wb_rect.specs.Offsets.{shifted, low_by, IsWithin, EachWithin, CanShift, each_shifted}
use Rattle.wb_rect.specs.Product.{product, IsRectangle}
use Rattle.wb_rect.specs.Slices.{IsCommon, common, sliced}
use Rattle.wb_rect.proofs.Kept.{canonical_none, kept}
use Rattle.wb_rect.proofs.Product.{length-rows, IsListedOnce-rows, IsListedOnce-none}
use Rattle.wb_rect.proofs.Shifts.{empty-sequence}
use Rattle.wb_rect.proofs.Slices.{IsRange-common, common_is, same_common, length-common}

-- ---- each index once

IsListedOnce-range : (xs : List ℤ) → IsRange xs → IsListedOnce xs
IsListedOnce-range xs h =
    let k = kept xs h in
    subst (λ (zs : List ℤ). IsListedOnce zs) k.is (IsListedOnce-steps k.fields.first k.fields.stride k.fields.count k.canonical.nonzero)

pub IsListedOnce-product : (rs : List (List ℤ)) → All IsRange rs → IsListedOnce (product rs)
IsListedOnce-product [] h = IsListedOnce-none
IsListedOnce-product (xs ∷ rs) h = IsListedOnce-rows xs (product rs) (IsListedOnce-range xs (All-head IsRange xs rs h))
    (IsListedOnce-product rs (All-tail IsRange xs rs h))

-- ---- slices

length-sliced : (rs ts : List (List ℤ)) → length ts ≡ length rs → length (sliced rs ts) ≡ length rs
length-sliced [] ts e = refl
length-sliced (xs ∷ rs) [] e = absurd (omega arith)
length-sliced (xs ∷ rs) (ys ∷ ts) e = omega (arith, length-sliced rs ts (omega arith))

ranges_sliced : (rs ts : List (List ℤ)) → All IsRange rs → All IsRange ts → All IsRange (sliced rs ts)
ranges_sliced [] ts h g = All-nil IsRange
ranges_sliced (xs ∷ rs) [] h g = All-nil IsRange
ranges_sliced (xs ∷ rs) (ys ∷ ts) h g =
    All-cons IsRange (common xs ys) (sliced rs ts) (IsRange-common xs ys (All-head IsRange xs rs h) (All-head IsRange ys ts g))
    (ranges_sliced rs ts (All-tail IsRange xs rs h) (All-tail IsRange ys ts g))

fewer_sliced : (rs ts : List (List ℤ)) → length ts ≡ length rs → length (product (sliced rs ts)) ≤ length (product rs)
fewer_sliced [] ts e = omega arith
fewer_sliced (xs ∷ rs) [] e = absurd (omega arith)
fewer_sliced (xs ∷ rs) (ys ∷ ts) e =
    let m : length (common xs ys) * length (product (sliced rs ts)) ≤ length xs * length (product rs) =
    mul-le-mul (length-common xs ys) (fewer_sliced rs ts (omega arith)) in
    omega (arith, length-rows (common xs ys) (product (sliced rs ts)), length-rows xs (product rs))

pub IsRectangle-sliced : (rank : ℕ) (rs ts : List (List ℤ)) → IsRectangle rank rs → IsRectangle rank ts → IsRectangle rank (sliced rs ts)
IsRectangle-sliced rank rs ts h g =
    let e : length ts ≡ length rs = omega (arith, h.dimensions, g.dimensions) in
    let k : All IsRange (sliced rs ts) = ranges_sliced rs ts h.kept g.kept in
    record {
      dimensions = length-sliced rs ts e ∙ h.dimensions;
      at_least_one = h.at_least_one;
      at_most_three = h.at_most_three;
      kept = k;
      size = omega (arith, fewer_sliced rs ts e, h.size);
      once = IsListedOnce-product (sliced rs ts) k;
    }

-- ranges that have in common what both have are the slice
pub sliced_is : (rs ts zs : List (List ℤ)) → length ts ≡ length rs → length zs ≡ length rs → All IsRange rs →
    ((p : ℕ) → p < length rs → IsCommon (get_or rs p []) (get_or ts p []) (get_or zs p [])) → zs ≡ sliced rs ts
sliced_is [] ts [] e f h g = refl
sliced_is [] ts (zs ∷ ws) e f h g = absurd (omega arith)
sliced_is (xs ∷ rs) [] ws e f h g = absurd (omega arith)
sliced_is (xs ∷ rs) (ys ∷ ts) [] e f h g = absurd (omega arith)
sliced_is (xs ∷ rs) (ys ∷ ts) (zs ∷ ws) e f h g =
    ap₂ (λ (z : List ℤ) (w : List (List ℤ)). z ∷ w)
    (same_common xs ys zs (common xs ys) (g 0 (omega arith)) (common_is xs ys (All-head IsRange xs rs h)))
    (sliced_is rs ts ws (omega arith) (omega arith) (All-tail IsRange xs rs h) (λ p l. g (suc p) (omega arith)))

-- ---- shifts

IsRange-none : IsRange []
IsRange-none = is_range (record { first = pos 1; count = 0; stride = pos 1 }) [] canonical_none refl

pub IsRange-shifted : (low high : ℤ) (xs : List ℤ) → IsWithin low high xs → IsRange (shifted low high xs)
IsRange-shifted low high [] h = IsRange-none
IsRange-shifted low high (x ∷ xs) (inl l) = subst IsRange (sym (empty-sequence (x +ℤ low) (x +ℤ pos (length xs) +ℤ high) l)) IsRange-none
IsRange-shifted low high (x ∷ xs) (inr h) =
    record { low = x +ℤ low; high = x +ℤ pos (length xs) +ℤ high; stride = pos 1; nonzero = λ z. omega (arith, ints); is = refl; limits = h }

length-each_shifted : (outward : Bool) (os : List ℤ) (rs : List (List ℤ)) → length os ≡ length rs → length (each_shifted outward os rs) ≡ length rs
length-each_shifted outward [] rs e = e
length-each_shifted outward (o ∷ os) [] e = refl
length-each_shifted outward (o ∷ os) (xs ∷ rs) e = omega (arith, length-each_shifted outward os rs (omega arith))

ranges_shifted : (outward : Bool) (os : List ℤ) (rs : List (List ℤ)) → EachWithin outward os rs → All IsRange (each_shifted outward os rs)
ranges_shifted outward [] rs h = All-nil IsRange
ranges_shifted outward (o ∷ os) [] h = All-nil IsRange
ranges_shifted outward (o ∷ os) (xs ∷ rs) h =
    All-cons IsRange (shifted (low_by outward o) o xs) (each_shifted outward os rs) (IsRange-shifted (low_by outward o) o xs h.0)
    (ranges_shifted outward os rs h.1)

pub IsRectangle-each_shifted : (rank : ℕ) (outward : Bool) (os : List ℤ) (rs : List (List ℤ)) → IsRectangle rank rs → CanShift outward os rs →
    length os ≡ rank → IsRectangle rank (each_shifted outward os rs)
IsRectangle-each_shifted rank outward os rs h c e =
    let k : All IsRange (each_shifted outward os rs) = ranges_shifted outward os rs c.ranges_within in
    record {
      dimensions = length-each_shifted outward os rs (e ∙ sym h.dimensions) ∙ h.dimensions;
      at_least_one = h.at_least_one;
      at_most_three = h.at_most_three;
      kept = k;
      size = c.size;
      once = IsListedOnce-product (each_shifted outward os rs) k;
    }

-- the first and the last index of a box
use Rattle.std.proofs.Common.{◌≡◌, ℕ, suc, ◌+◌, ◌-◌, ◌*◌, ◌<◌, ◌≤◌, Bool, true, false, ℤ, List, [], ◌∷◌, Some, None, map, length, slice_get, refl, sym, ap, ◌∙◌}
use Rattle.std.proofs.Common.{arith}
use Rattle.std.specs.List.{list_all}
use Rattle.std.proofs.lemmas.Option.{none-some, same_Some, slice_get_within}
use Rattle.wb_rect.specs.Product.{rows, product}
use Rattle.wb_rect.proofs.Product.{length-rows, get-rows}
use Rattle.wb_dist.specs.Maps.{first_of, last_of, low_corner, high_corner, is_filled}

rows-none : (xs : List ℤ) → rows xs [] ≡ []
rows-none [] = refl
rows-none (x ∷ xs) = rows-none xs

empty_box : (box : List (List ℤ)) → list_all is_filled box ≡ false → product box ≡ []
empty_box [] h = absurd (cc)
empty_box ([] ∷ box) h = refl
empty_box ((x ∷ xs) ∷ box) h = ap (λ ts. rows (x ∷ xs) ts) (empty_box box h) ∙ rows-none (x ∷ xs)

low_at : (box : List (List ℤ)) → list_all is_filled box ≡ true → slice_get (product box) 0 ≡ Some (low_corner box)
low_at [] h = refl
low_at ([] ∷ box) h = absurd (cc)
low_at ((x ∷ xs) ∷ box) h = get-rows (x ∷ xs) (product box) 0 0 0 x (low_corner box) (omega arith) refl (low_at box h)

last_at : (x : ℤ) (xs : List ℤ) → slice_get (x ∷ xs) (length xs) ≡ Some (last_of (x ∷ xs))
last_at x [] = refl
last_at x (y ∷ ys) = last_at y ys

-- the last of m + 1 rows of l columns, and in it the last column
last_place : (m l n : ℕ) → n ≡ suc m * l → 1 ≤ l → n - 1 ≡ m * l + (l - 1)
last_place m l n e h = omega arith

high_at : (box : List (List ℤ)) → list_all is_filled box ≡ true → slice_get (product box) (length (product box) - 1) ≡ Some (high_corner box)
high_at [] h = refl
high_at ([] ∷ box) h = absurd (cc)
high_at ((x ∷ xs) ∷ box) h =
    let l : 0 < length (product box) = slice_get_within (product box) 0 (low_corner box) (low_at box h) in
    let n : length (rows (x ∷ xs) (product box)) ≡ suc (length xs) * length (product box) = length-rows (x ∷ xs) (product box) in
    get-rows (x ∷ xs) (product box) (length xs) (length (product box) - 1) (length (rows (x ∷ xs) (product box)) - 1) (last_of (x ∷ xs)) (high_corner box)
    (last_place (length xs) (length (product box)) _ n l) (last_at x xs) (high_at box h)

pub record IsCorner (box : List (List ℤ)) (low : List ℤ) : Type 0 where
  pub filled : list_all is_filled box ≡ true
  pub low_is : low ≡ low_corner box
  pub size : 0 < length (product box)

pub has_corner : (box : List (List ℤ)) (low : List ℤ) → Some low ≡ slice_get (product box) 0 → IsCorner box low
has_corner box low e = by (list_all is_filled box) refl
  where
    by : (b : Bool) → list_all is_filled box ≡ b → IsCorner box low
    by true f = record {
      filled = f;
      low_is = same_Some _ _ (e ∙ low_at box f);
      size = slice_get_within (product box) 0 low (sym e);
    }
    by false f = absurd (none-some low (sym (ap (λ (ts : List (List ℤ)). slice_get ts 0) (empty_box box f)) ∙ sym e))

pub no_corner : (box : List (List ℤ)) → None ≡ slice_get (product box) 0 → list_all is_filled box ≡ false
no_corner box e = by (list_all is_filled box) refl
  where
    by : (b : Bool) → list_all is_filled box ≡ b → list_all is_filled box ≡ false
    by true f = absurd (none-some (low_corner box) (e ∙ low_at box f))
    by false f = f

pub far_corner : (box : List (List ℤ)) (low high : List ℤ) (size : ℕ) → IsCorner box low → size ≡ length (product box) →
    Some high ≡ slice_get (product box) (size - 1) → high ≡ high_corner box
far_corner box low high size h s e = same_Some _ _ (e ∙ ap (λ (n : ℕ). slice_get (product box) (n - 1)) s ∙ high_at box h.filled)

pub no_far_corner : (box : List (List ℤ)) (low : List ℤ) (size : ℕ) → IsCorner box low → size ≡ length (product box) →
    None ≡ slice_get (product box) (size - 1) → ⊥
no_far_corner box low size h s e = none-some (high_corner box) (e ∙ ap (λ (n : ℕ). slice_get (product box) (n - 1)) s ∙ high_at box h.filled)

length-map : {A B : Type 0} (f : A → B) (xs : List A) → length (map f xs) ≡ length xs
length-map f [] = refl
length-map f (x ∷ xs) = omega (arith, length-map f xs)

pub rank_of_corner : (box : List (List ℤ)) (low : List ℤ) → IsCorner box low → length box ≡ length low
rank_of_corner box low h = sym (length-map first_of box) ∙ ap (λ (xs : List ℤ). length xs) (sym h.low_is)

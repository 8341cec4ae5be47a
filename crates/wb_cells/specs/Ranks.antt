-- Rectangles of rank 1, 2 and 3 as the lists of their ranges, and back.
use Rattle.std.specs.Prelude.{◌≡◌, ℤ, List, [], ◌∷◌, length, refl}
use Rattle.wb_rect.specs.Product.{IsRectangle}
use Rattle.wb_cells.specs.declared.values.rectangle.Ranked.{Ranked}
use Rattle.wb_cells.specs.declared.values.rectangle.Ranked.TheVariants.{Rank1, Rank2, Rank3}

-- the ranges of a rectangle
abbrev pub ranges_of : Ranked → List (List ℤ)
ranges_of (Rank1 rs) = rs
ranges_of (Rank2 rs) = rs
ranges_of (Rank3 rs) = rs

-- the ranges are as many as the rank, and within their limits
abbrev pub IsRanked : Ranked → Type 0
IsRanked (Rank1 rs) = IsRectangle 1 rs
IsRanked (Rank2 rs) = IsRectangle 2 rs
IsRanked (Rank3 rs) = IsRectangle 3 rs

-- the rectangle of the rank that the ranges have
abbrev pub of_ranges : List (List ℤ) → Ranked
of_ranges [] = Rank1 []
of_ranges (x ∷ []) = Rank1 (x ∷ [])
of_ranges (x ∷ (y ∷ [])) = Rank2 (x ∷ y ∷ [])
of_ranges (x ∷ (y ∷ (z ∷ rs))) = Rank3 (x ∷ y ∷ z ∷ rs)

of_one : (rs : List (List ℤ)) → length rs ≡ 1 → of_ranges rs ≡ Rank1 rs
of_one [] e = cc
of_one (x ∷ []) e = refl
of_one (x ∷ (y ∷ rs)) e = cc

of_two : (rs : List (List ℤ)) → length rs ≡ 2 → of_ranges rs ≡ Rank2 rs
of_two [] e = cc
of_two (x ∷ []) e = cc
of_two (x ∷ (y ∷ [])) e = refl
of_two (x ∷ (y ∷ (z ∷ rs))) e = cc

of_three : (rs : List (List ℤ)) → length rs ≡ 3 → of_ranges rs ≡ Rank3 rs
of_three [] e = cc
of_three (x ∷ []) e = cc
of_three (x ∷ (y ∷ [])) e = cc
of_three (x ∷ (y ∷ (z ∷ rs))) e = refl

-- the rectangle comes back from its ranges
pub of_ranges-ranges_of : (r : Ranked) → IsRanked r → of_ranges (ranges_of r) ≡ r
of_ranges-ranges_of (Rank1 rs) h = of_one rs h.dimensions
of_ranges-ranges_of (Rank2 rs) h = of_two rs h.dimensions
of_ranges-ranges_of (Rank3 rs) h = of_three rs h.dimensions

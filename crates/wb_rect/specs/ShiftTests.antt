-- whether ranges can be shifted, as tests that compute with bounds and counts alone (Chapel Language Specification, Domains:
-- `translate` and `expand`)
use Rattle.std.specs.Prelude.{ℕ, ◌*◌, nat_le, Bool, true, ◌&&◌, ◌||◌, ℤ, pos, negsuc, ◌+ℤ◌, ◌-ℤ◌, int_lt, int_le, List, [], ◌∷◌, length}
use Rattle.std.specs.List.{list_all}
use Rattle.std.specs.Ordering.{int_eq}
use Rattle.wb_range.specs.Sequence.{or_zero}
use Rattle.wb_range.specs.Steps.{stride_of}
use Rattle.wb_rect.specs.Offsets.{low_by}

-- each range has stride 1
abbrev pub has_unit_strides : List (List ℤ) → Bool
has_unit_strides ranges = list_all (λ xs. int_eq (stride_of xs) (pos 1)) ranges

-- within the limits of a bound
abbrev pub is_bound : ℤ → Bool
is_bound i = int_le (negsuc 999999999999999999) i && int_le i (pos 1000000000000000000)

-- how many integers there are from low to high
abbrev pub count_between : (low high : ℤ) → ℕ
count_between low high = or_zero (high -ℤ low +ℤ pos 1)

-- the range low..high is empty or within its limits
abbrev pub are_within : (low high : ℤ) → Bool
are_within low high = int_lt high low || (is_bound low && is_bound high && nat_le (count_between low high) 65536)

-- a range lo..hi as lo+low..hi+high is empty or within its limits
abbrev pub is_within : (low high : ℤ) → List ℤ → Bool
is_within low high [] = true
is_within low high (x ∷ xs) = are_within (x +ℤ low) (x +ℤ pos (length xs) +ℤ high)

-- how many indices a range lo..hi has as lo+low..hi+high
abbrev pub shifted_count : (low high : ℤ) → List ℤ → ℕ
shifted_count low high [] = 0
shifted_count low high (x ∷ xs) = count_between (x +ℤ low) (x +ℤ pos (length xs) +ℤ high)

-- each range, shifted by the offset at its place, is empty or within its limits
abbrev pub are_each_within : (outward : Bool) → List ℤ → List (List ℤ) → Bool
are_each_within outward [] ranges = true
are_each_within outward (o ∷ os) [] = true
are_each_within outward (o ∷ os) (xs ∷ ranges) = is_within (low_by outward o) o xs && are_each_within outward os ranges

-- how many indices the product has of the ranges, each shifted by the offset at its place
abbrev pub shifted_size : (outward : Bool) → List ℤ → List (List ℤ) → ℕ
shifted_size outward [] ranges = 1
shifted_size outward (o ∷ os) [] = 1
shifted_size outward (o ∷ os) (xs ∷ ranges) = shifted_count (low_by outward o) o xs * shifted_size outward os ranges

-- no resulting range and not their product passes its limit
abbrev pub can_shift : (outward : Bool) → List ℤ → List (List ℤ) → Bool
can_shift outward offsets ranges = are_each_within outward offsets ranges && nat_le (shifted_size outward offsets ranges) 65536

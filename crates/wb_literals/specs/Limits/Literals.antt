-- What the literals of rectangles and of sets stand for, within the limits of ranges and of rectangular domains (Chapel
-- Language Specification, Ranges and Domains).
use Rattle.std.specs.Prelude.{ℤ, pos, negsuc, ◌-ℤ◌, int_le, List, [], ◌∷◌, length, map, Bool, not, ◌&&◌, nat_le, Option, Some, None, Result, Ok, Err}
use Rattle.std.specs.Prelude.{if◌then◌else◌}
use Rattle.std.specs.Ordering.{int_eq}
use Rattle.wb_range.specs.Sequence.{sequence, counted_bounds}
use Rattle.wb_rect.specs.Product.{product}
use Rattle.wb_cells.specs.Shapes.{Range}
use Rattle.wb_cells.specs.declared.values.index.Index.{Index}
use Rattle.wb_cells.specs.declared.values.index.Index.TheVariants.{Point, Text}
use Rattle.wb_literals.specs.Set.{Items, nothing, integers, pairs, triples, texts}
use Rattle.wb_literals.specs.declared.range.RangeLiteral.{RangeLiteral}
use Rattle.wb_literals.specs.declared.range.Stride.{Stride}
use Rattle.wb_literals.specs.declared.range.Upper.{Upper}
use Rattle.wb_literals.specs.declared.range.Upper.TheVariants.{To, Below, Count}
use Rattle.wb_literals.specs.declared.rectangle.RectangleLiteral.{RectangleLiteral}
use Rattle.wb_literals.specs.declared.rectangle.RectangleLiteral.TheVariants.{Rank1, Rank2, Rank3}
use Rattle.wb_literals.specs.declared.limits.limit.LimitErr.{LimitErr}
use Rattle.wb_literals.specs.declared.limits.limit.LimitErr.TheVariants.{TooLarge}

-- "by r, get x, and go on", unless r refuses
infixr 10 ◌>>=◌
abbrev pub ◌>>=◌ : {X Y E : Type 0} → Result X E → (X → Result Y E) → Result Y E
Ok x >>= next = next x
Err why >>= next = Err why

-- the indices that a set lists, in the order of its text
abbrev pub listed_in : Items → List Index
listed_in nothing = []
listed_in (integers is) = map (λ i. Point (i ∷ [])) is
listed_in (pairs ps) = map Point ps
listed_in (triples ts) = map Point ts
listed_in (texts ts) = map Text ts

-- `a..b` has the bounds a and b, `a..<b` goes to b - 1, and `a..#n` has n integers from a on, where none are `1..0`
abbrev pub bounds_to : ℤ → Upper → ℤ × ℤ
bounds_to low (To high) = (low, high)
bounds_to low (Below high) = (low, high -ℤ pos 1)
bounds_to low (Count n) = counted_bounds low n

-- the stride is 1 where none is written
abbrev pub stride_in : Option Stride → ℤ
stride_in None = pos 1
stride_in (Some s) = s.stride

abbrev pub align_in : Option Stride → Option ℤ
align_in None = None
align_in (Some s) = s.align

-- from -10^18 to 10^18
abbrev pub is_bound : ℤ → Bool
is_bound i = int_le (negsuc 999999999999999999) i && int_le i (pos 1000000000000000000)

-- the bounds are within their limits, and a range has at most 65,536 indices; no literal has stride 0
abbrev pub is_range : ℤ × ℤ → ℤ → Option ℤ → Bool
is_range b stride align = not (int_eq stride (pos 0)) && (is_bound b.0 && (is_bound b.1 && nat_le (length (sequence b.0 b.1 stride align)) 65536))

-- the range of these bounds, within the limits
abbrev pub range_within : ℤ × ℤ → ℤ → Option ℤ → Result Range LimitErr
range_within b stride align = if is_range b stride align then Ok (sequence b.0 b.1 stride align) else Err TooLarge

-- the range that a literal stands for, within the limits
abbrev pub range_of : RangeLiteral → Result Range LimitErr
range_of r = range_within (bounds_to r.low r.upper) (stride_in r.stride) (align_in r.stride)

-- a rectangle has at most 65,536 indices
abbrev pub rectangle_within : List Range → Result (List Range) LimitErr
rectangle_within rs = if nat_le (length (product rs)) 65536 then Ok rs else Err TooLarge

-- the domain that a literal stands for, within all limits
abbrev pub domain_within : RectangleLiteral → Result (List Range) LimitErr
domain_within (Rank1 r) = do
  a ← range_of r
  rectangle_within (a ∷ [])
domain_within (Rank2 r s) = do
  a ← range_of r
  b ← range_of s
  rectangle_within (a ∷ b ∷ [])
domain_within (Rank3 r s t) = do
  a ← range_of r
  b ← range_of s
  c ← range_of t
  rectangle_within (a ∷ b ∷ c ∷ [])

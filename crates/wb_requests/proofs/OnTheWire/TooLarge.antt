-- The literal of a rectangle breaks no limit but those of sizes.
use Rattle.std.proofs.Common.{◌≡◌, Bool, true, false, List, [], ◌∷◌, length, nat_le, Result, Ok, Err, sym, ap, if◌then◌else◌}
use Rattle.wb_rect.specs.Product.{product}
use Rattle.wb_cells.specs.Shapes.{Range}
use Rattle.wb_literals.specs.declared.range.RangeLiteral.{RangeLiteral}
use Rattle.wb_literals.specs.declared.rectangle.RectangleLiteral.{RectangleLiteral}
use Rattle.wb_literals.specs.declared.rectangle.RectangleLiteral.TheVariants.{Rank1, Rank2, Rank3}
use Rattle.wb_literals.specs.Limits.Literals.{◌>>=◌, bounds_to, stride_in, align_in, is_range, range_of, rectangle_within, domain_within}
use Rattle.wb_literals.specs.declared.limits.limit.LimitErr.{LimitErr}
use Rattle.wb_literals.specs.declared.limits.limit.LimitErr.TheVariants.{TooLarge}
use Rattle.wb_range.specs.Sequence.{sequence}

same_err : {X : Type 0} (v w : LimitErr) → ◌≡◌ {A = Result X LimitErr} (Err v) (Err w) → v ≡ w
same_err v w e = cc

ok_err : {X Y : Type 0} (x : X) (w : LimitErr) → ◌≡◌ {A = Result X LimitErr} (Ok x) (Err w) → Y
ok_err x w e = cc

if_large : {X : Type 0} (b : Bool) (x : X) (w : LimitErr) → (if b then Ok x else Err TooLarge) ≡ Err w → w ≡ TooLarge
if_large true x w e = ok_err x w e
if_large false x w e = sym (same_err TooLarge w e)

then_large : {X Y : Type 0} (r : Result X LimitErr) (next : X → Result Y LimitErr) (w : LimitErr) → (r >>= next) ≡ Err w → (r ≡ Err w → w ≡ TooLarge) →
    ((x : X) → next x ≡ Err w → w ≡ TooLarge) → w ≡ TooLarge
then_large (Ok x) next w e h k = k x e
then_large (Err v) next w e h k = h (ap Err (same_err v w e))

range_large : (r : RangeLiteral) (w : LimitErr) → range_of r ≡ Err w → w ≡ TooLarge
range_large r w e = if_large (is_range (bounds_to r.low r.upper) (stride_in r.stride) (align_in r.stride))
    (sequence (bounds_to r.low r.upper).0 (bounds_to r.low r.upper).1 (stride_in r.stride) (align_in r.stride)) w e

rectangle_large : (rs : List Range) (w : LimitErr) → rectangle_within rs ≡ Err w → w ≡ TooLarge
rectangle_large rs w e = if_large (nat_le (length (product rs)) 65536) rs w e

pub domain_large : (r : RectangleLiteral) (w : LimitErr) → domain_within r ≡ Err w → w ≡ TooLarge
domain_large (Rank1 r) w e = then_large (range_of r) (λ a. rectangle_within (a ∷ [])) w e (range_large r w) (λ a. rectangle_large (a ∷ []) w)
domain_large (Rank2 r s) w e =
    then_large (range_of r) (λ a. range_of s >>= (λ b. rectangle_within (a ∷ b ∷ []))) w e (range_large r w) (λ a f.
    then_large (range_of s) (λ b. rectangle_within (a ∷ b ∷ [])) w f (range_large s w) (λ b. rectangle_large (a ∷ b ∷ []) w))
domain_large (Rank3 r s t) w e =
    then_large (range_of r) (λ a. range_of s >>= (λ b. range_of t >>= (λ c. rectangle_within (a ∷ b ∷ c ∷ [])))) w e (range_large r w) (λ a f.
    then_large (range_of s) (λ b. range_of t >>= (λ c. rectangle_within (a ∷ b ∷ c ∷ []))) w f (range_large s w) (λ b g.
    then_large (range_of t) (λ c. rectangle_within (a ∷ b ∷ c ∷ [])) w g (range_large t w) (λ c. rectangle_large (a ∷ b ∷ c ∷ []) w)))

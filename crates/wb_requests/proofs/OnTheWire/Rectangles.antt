-- What the literal of a rectangle stands for, within the limits, is a rectangle.
use Rattle.std.proofs.Common.{rules, ◌≡◌, ◌≢◌, ◌≤◌, ℤ, pos, negsuc, ◌≤ℤ◌, int_le, int_eq, Bool, true, false, not, ◌&&◌, nat_le, List, [], ◌∷◌, length, Option}
use Rattle.std.proofs.Common.{Result, Ok, Err, refl, subst, if◌then◌else◌, arith}
use Rattle.std.proofs.lemmas.Bool.{leb-true, and_parts}
use Rattle.std.proofs.lemmas.List.Elements.{All-from_recursion}
use Rattle.std.specs.List.{All, AllByRecursion}
use Rattle.wb_range.specs.Canonical.{IsRange}
use Rattle.wb_range.specs.Sequence.{sequence, IsBound}
use Rattle.wb_rect.specs.Product.{product, IsRectangle}
use Rattle.wb_rect.proofs.Rectangles.{IsListedOnce-product}
use Rattle.wb_literals.specs.declared.range.RangeLiteral.{RangeLiteral}
use Rattle.wb_literals.specs.declared.rectangle.RectangleLiteral.{RectangleLiteral}
use Rattle.wb_literals.specs.declared.rectangle.RectangleLiteral.TheVariants.{Rank1, Rank2, Rank3}
use Rattle.wb_literals.specs.Limits.Literals.{◌>>=◌, bounds_to, stride_in, align_in, is_bound, is_range, range_within, range_of, rectangle_within, domain_within}
use Rattle.wb_literals.specs.declared.limits.limit.LimitErr.{LimitErr}
use Rattle.wb_literals.specs.declared.limits.limit.LimitErr.TheVariants.{TooLarge}
use Rattle.wb_requests.proofs.OnTheWire.Ranges.{sequence_is_range}

-- ---- steps

pub ok_is : {X : Type 0} (x y : X) → ◌≡◌ {A = Result X LimitErr} (Ok x) (Ok y) → x ≡ y
ok_is x y e = cc

pub no_ok : {X Y : Type 0} (why : LimitErr) (x : X) → ◌≡◌ {A = Result X LimitErr} (Err why) (Ok x) → Y
no_ok why x e = cc

pub each_step : {X Y : Type 0} (r : Result X LimitErr) (next : X → Result Y LimitErr) (y : Y) → (r >>= next) ≡ Ok y → (x : X) × (r ≡ Ok x) × (next x ≡ Ok y)
each_step (Ok x) next y e = (x, refl, e)
each_step (Err why) next y e = no_ok why y e

pub taken : {X : Type 0} (b : Bool) (x y : X) (why : LimitErr) → (if b then Ok x else Err why) ≡ Ok y → (b ≡ true) × (x ≡ y)
taken true x y why e = (refl, ok_is x y e)
taken false x y why e = no_ok why y e

-- ---- ranges

above : (a b : ℤ) → int_le a b ≡ true → a ≤ℤ b
above a b h = search rules

other : (s : ℤ) → not (int_eq s (pos 0)) ≡ true → s ≢ pos 0
other s h e = let f : not (int_eq (pos 0) (pos 0)) ≡ true = subst (λ z. not (int_eq z (pos 0)) ≡ true) e h in cc

bound : (z : ℤ) → is_bound z ≡ true → IsBound z
bound z h =
    let both = and_parts (int_le (negsuc 999999999999999999) z) (int_le z (pos 1000000000000000000)) h in
    record { low = above (negsuc 999999999999999999) z both.0; high = above z (pos 1000000000000000000) both.1 }

within_is : (b : ℤ × ℤ) (stride : ℤ) (align : Option ℤ) (xs : List ℤ) → range_within b stride align ≡ Ok xs → IsRange xs
within_is b stride align xs e =
    let k = taken (is_range b stride align) (sequence b.0 b.1 stride align) xs TooLarge e in
    let one = and_parts (not (int_eq stride (pos 0))) (is_bound b.0 && (is_bound b.1 && nat_le (length (sequence b.0 b.1 stride align)) 65536)) k.0 in
    let two = and_parts (is_bound b.0) (is_bound b.1 && nat_le (length (sequence b.0 b.1 stride align)) 65536) one.1 in
    let three = and_parts (is_bound b.1) (nat_le (length (sequence b.0 b.1 stride align)) 65536) two.1 in
    subst IsRange k.1 (sequence_is_range b.0 b.1 stride align (other stride one.0) (record {
      low_bound = bound b.0 two.0;
      high_bound = bound b.1 three.0;
      count = leb-true (length (sequence b.0 b.1 stride align)) 65536 three.1;
    }))

range_is : (r : RangeLiteral) (xs : List ℤ) → range_of r ≡ Ok xs → IsRange xs
range_is r xs e = within_is (bounds_to r.low r.upper) (stride_in r.stride) (align_in r.stride) xs e

-- ---- rectangles

ranges_are : (given rs : List (List ℤ)) → 1 ≤ length given → length given ≤ 3 → AllByRecursion IsRange given
    → rectangle_within given ≡ Ok rs → IsRectangle (length rs) rs
ranges_are given rs low high each e =
    let k = taken (nat_le (length (product given)) 65536) given rs TooLarge e in
    let kept : All IsRange given = All-from_recursion IsRange given each in
    subst (λ rs. IsRectangle (length rs) rs) k.1 (record {
      dimensions = refl;
      at_least_one = low;
      at_most_three = high;
      kept = kept;
      size = leb-true (length (product given)) 65536 k.0;
      once = IsListedOnce-product given kept;
    })

pub domain_is : (l : RectangleLiteral) (rs : List (List ℤ)) → domain_within l ≡ Ok rs → IsRectangle (length rs) rs
domain_is (Rank1 r) rs e =
    let a = each_step (range_of r) (λ a. rectangle_within (a ∷ [])) rs e in
    ranges_are (a.0 ∷ []) rs (omega arith) (omega arith) (range_is r a.0 a.1, tt) a.2
domain_is (Rank2 r s) rs e =
    let a = each_step (range_of r) (λ a. range_of s >>= (λ b. rectangle_within (a ∷ b ∷ []))) rs e in
    let b = each_step (range_of s) (λ b. rectangle_within (a.0 ∷ b ∷ [])) rs a.2 in
    ranges_are (a.0 ∷ b.0 ∷ []) rs (omega arith) (omega arith) (range_is r a.0 a.1, (range_is s b.0 b.1, tt)) b.2
domain_is (Rank3 r s t) rs e =
    let a = each_step (range_of r) (λ a. range_of s >>= (λ b. range_of t >>= (λ c. rectangle_within (a ∷ b ∷ c ∷ [])))) rs e in
    let b = each_step (range_of s) (λ b. range_of t >>= (λ c. rectangle_within (a.0 ∷ b ∷ c ∷ []))) rs a.2 in
    let c = each_step (range_of t) (λ c. rectangle_within (a.0 ∷ b.0 ∷ c ∷ [])) rs b.2 in
    ranges_are (a.0 ∷ b.0 ∷ c.0 ∷ []) rs (omega arith) (omega arith) (range_is r a.0 a.1, (range_is s b.0 b.1, (range_is t c.0 c.1, tt))) c.2

-- Rectangles are read back.
use Rattle.std.proofs.Common.{◌≡◌, ◌≢◌, ℕ, ◌≤◌, ℤ, pos, List, [], ◌∷◌, ◌++◌, map, codes, length, true, false, Some, None, Ok, if◌then◌else◌, refl, sym, ap, ◌∙◌}
use Rattle.std.proofs.Common.{arith, le-leb}
use Rattle.std.proofs.lemmas.Bool.Decides.{Decides-int_eq}
use Rattle.std.proofs.lemmas.List.Elements.{recursion_from_All}
use Rattle.std.specs.List.{AllByRecursion}
use Rattle.std.specs.Ordering.{int_eq}
use Rattle.wb_range.specs.Canonical.{bounds_of, IsRange}
use Rattle.wb_range.specs.Steps.{stride_of}
use Rattle.wb_rect.specs.Product.{IsRectangle, product}
use Rattle.wb_literals.specs.Integer.{IsWithin}
use Rattle.wb_literals.specs.RangeText.{unaligned, IsStride}
use Rattle.wb_literals.specs.Grammar as grammar
use Rattle.wb_literals.specs.declared.range.RangeLiteral.{RangeLiteral}
use Rattle.wb_literals.specs.declared.range.Upper.TheVariants.{To}
use Rattle.wb_literals.specs.declared.rectangle.RectangleLiteral.{RectangleLiteral}
use Rattle.wb_literals.specs.declared.rectangle.RectangleLiteral.TheVariants.{Rank1, Rank2, Rank3}
use Rattle.wb_literals.proofs.RectangleGrammar.{rectangle_read}
use Rattle.wb_literals.specs.Limits.Literals.{stride_in, align_in, range_within, range_of, rectangle_within, domain_within}
use Rattle.wb_literals.proofs.WithinLimits.Within.{within}
use Rattle.wb_text.specs.Literals.{written_stride, text_of_range, rectangle_text}
use Rattle.wb_text.proofs.Readable.{Each}
use Rattle.wb_text.proofs.RangeSpelled.{range_bounded}
use Rattle.wb_text.specs.Parsed.Parts.{ranges_at}
use Rattle.wb_text.proofs.Parsed.Back.Spelled.{IsShort, by_length, range_spelled, enclosed_spelled}

-- ---- the literal of a range

pub literal_of : List ℤ → RangeLiteral
literal_of xs = record { low = (bounds_of xs).0; upper = To (bounds_of xs).1; stride = unaligned (written_stride (stride_of xs)) }

stride_is : (s : ℤ) → IsWithin s → s ≢ pos 0 → IsStride (written_stride s)
stride_is s h n = elim (int_eq s (pos 1)) as (λ t. IsStride (if t then None else Some s)) [ true ↦ tt | false ↦ (h, n) ]

literal_spelled : (xs : List ℤ) → IsRange xs → grammar.IsRange (text_of_range xs) (literal_of xs)
unfolding literal_of
literal_spelled xs r =
    let b = range_bounded xs r in
    range_spelled _ _ (written_stride (stride_of xs)) b.spelled.low b.spelled.high (stride_is (stride_of xs) b.spelled.stride b.nonzero)

stride_back : (s : ℤ) → stride_in (unaligned (written_stride s)) ≡ s
stride_back s = elim (int_eq s (pos 1)) as (λ t. int_eq s (pos 1) ≡ t → stride_in (unaligned (if t then None else Some s)) ≡ s) [
  | true ↦ λ e. sym ((Decides-int_eq s (pos 1)).0 e)
  | false ↦ λ e. refl
] refl

align_back : (s : ℤ) → align_in (unaligned (written_stride s)) ≡ None
align_back s = elim (int_eq s (pos 1)) as (λ t. align_in (unaligned (if t then None else Some s)) ≡ None) [ true ↦ refl | false ↦ refl ]

within_back : (xs : List ℤ) → IsRange xs → range_within (bounds_of xs) (stride_of xs) None ≡ Ok xs
within_back xs r =
    let b = range_bounded xs r in
    rw (within (bounds_of xs).0 (bounds_of xs).1 (stride_of xs) None b.nonzero b.limits) (ap Ok b.spelled.spelled)

pub range_back : (xs : List ℤ) → IsRange xs → range_of (literal_of xs) ≡ Ok xs
unfolding literal_of
range_back xs r =
    ap (λ s. range_within (bounds_of xs) s (align_in (unaligned (written_stride (stride_of xs))))) (stride_back (stride_of xs))
    ∙ ap (range_within (bounds_of xs) (stride_of xs)) (align_back (stride_of xs)) ∙ within_back xs r

-- ---- rectangles

pub literal_of_all : List (List ℤ) → RectangleLiteral
literal_of_all [] = Rank1 (literal_of [])
literal_of_all (a ∷ []) = Rank1 (literal_of a)
literal_of_all (a ∷ b ∷ []) = Rank2 (literal_of a) (literal_of b)
literal_of_all (a ∷ b ∷ c ∷ rs) = Rank3 (literal_of a) (literal_of b) (literal_of c)

pub rectangle_spelled : (rs : List (List ℤ)) → IsShort rs → AllByRecursion IsRange rs → grammar.IsRectangle (rectangle_text rs) (literal_of_all rs)
unfolding literal_of_all
rectangle_spelled rs = by_length (λ rs. AllByRecursion IsRange rs → grammar.IsRectangle (rectangle_text rs) (literal_of_all rs))
    (λ a h. spelled a [] h) (λ a b h. spelled a (b ∷ []) h) (λ a b c h. spelled a (b ∷ c ∷ []) h) rs
  where
    each : (rs : List (List ℤ)) → AllByRecursion IsRange rs → Each IsRange rs
    each [] h = tt
    each (r ∷ rs) h = (h.0, each rs h.1)

    spelled : (a : List ℤ) (rs : List (List ℤ)) → AllByRecursion IsRange (a ∷ rs) →
        grammar.IsEnclosed (codes "{") (codes "}") grammar.IsRange (rectangle_text (a ∷ rs)) (map literal_of (a ∷ rs))
    spelled a rs h = enclosed_spelled grammar.IsRange text_of_range literal_of IsRange literal_spelled (codes "{") (codes "}") a rs (h.0, each rs h.1)

pub domain_back : (rs : List (List ℤ)) → IsShort rs → AllByRecursion IsRange rs → length (product rs) ≤ 65536 → domain_within (literal_of_all rs) ≡ Ok rs
unfolding literal_of_all
domain_back rs = by_length (λ rs. AllByRecursion IsRange rs → length (product rs) ≤ 65536 → domain_within (literal_of_all rs) ≡ Ok rs)
    (λ a h few. rw (range_back a h.0) (all (a ∷ []) few))
    (λ a b h few. rw (range_back a h.0, range_back b h.1.0) (all (a ∷ b ∷ []) few))
    (λ a b c h few. rw (range_back a h.0, range_back b h.1.0, range_back c h.1.1.0) (all (a ∷ b ∷ c ∷ []) few)) rs
  where
    all : (rs : List (List ℤ)) → length (product rs) ≤ 65536 → rectangle_within rs ≡ Ok rs
    all rs few = rw (le-leb (length (product rs)) 65536 few) refl

pub short : (rank : ℕ) (rs : List (List ℤ)) → IsRectangle rank rs → IsShort rs
short rank rs h =
    let size = h.dimensions in let low = h.at_least_one in let high = h.at_most_three in
    record { some = omega (arith, size, low); few = omega (arith, size, high) }

pub ranges_back : (rank : ℕ) (rs : List (List ℤ)) (rest : List ℕ) → IsRectangle rank rs → ranges_at (32 ∷ (rectangle_text rs ++ rest)) ≡ Some (rs, rest)
ranges_back rank rs rest h =
    let some = short rank rs h in let kept = recursion_from_All IsRange rs h.kept in
    rw (rectangle_read (rectangle_text rs) rest (literal_of_all rs) (rectangle_spelled rs some kept), domain_back rs some kept h.size) refl

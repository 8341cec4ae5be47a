-- The texts of ranges and rectangles are read in one way.
use Rattle.std.proofs.Common.{◌≡◌, ◌≢◌, ℕ, ℤ, pos, true, false, List, [], ◌∷◌, ◌++◌, codes, Option, Some, None, if◌then◌else◌, refl, sym, ap, ap₂, ◌∙◌}
use Rattle.std.proofs.Common.{append_assoc, arith}
use Rattle.std.proofs.lemmas.Bool.Decides.{Decides-int_eq}
use Rattle.std.specs.Fmt.{signed_decimal}
use Rattle.std.specs.Ordering.{int_eq}
use Rattle.wb_range.specs.Canonical.{bounds_of}
use Rattle.wb_range.specs.Sequence.{sequence}
use Rattle.wb_range.specs.Steps.{stride_of}
use Rattle.wb_literals.specs.Integer.{is_digit, IsWithin}
use Rattle.wb_literals.specs.RangeText.{range_text}
use Rattle.wb_literals.proofs.DigitsBack.{EndsDigits}
use Rattle.wb_text.specs.Literals.{written_stride, text_of_range, rectangle_text}
use Rattle.wb_text.proofs.Readable.{IsRead, IsNever, Each, Any, head_same, tail_same, enclosed_read}
use Rattle.wb_text.proofs.ReadIndices.{integer_read, no_integer, some_same}

-- neither a digit nor a space follows
abbrev pub EndsRange : List ℕ → Type 0
EndsRange [] = Unit {0}
EndsRange (b ∷ bytes) = (is_digit b ≡ false) × (b ≢ 32)

ends_digits : (r : List ℕ) → EndsRange r → EndsDigits r
ends_digits [] h = tt
ends_digits (b ∷ bytes) h = h.0

abbrev IsStrideWithin : Option ℤ → Type 0
IsStrideWithin None = Unit {0}
IsStrideWithin (Some s) = IsWithin s

-- ---- the text of a range, up to its stride

abbrev tail_text : Option ℤ → List ℕ → List ℕ
tail_text None r = r
tail_text (Some s) r = codes " by " ++ (signed_decimal s ++ r)

abbrev from_dots : ℤ → Option ℤ → List ℕ → List ℕ
from_dots high s r = codes ".." ++ (signed_decimal high ++ tail_text s r)

in_parts : (low high : ℤ) (s : Option ℤ) (r : List ℕ) → range_text low high s ++ r ≡ signed_decimal low ++ from_dots high s r
in_parts low high None r = append_assoc (signed_decimal low) (codes ".." ++ signed_decimal high) r
in_parts low high (Some s) r =
    append_assoc (signed_decimal low) (codes ".." ++ (signed_decimal high ++ (codes " by " ++ signed_decimal s))) r
    ∙ ap (λ x. signed_decimal low ++ (46 ∷ 46 ∷ x)) (append_assoc (signed_decimal high) (codes " by " ++ signed_decimal s) r)

tail_ends : (s : Option ℤ) (r : List ℕ) → EndsRange r → EndsDigits (tail_text s r)
tail_ends None r a = ends_digits r a
tail_ends (Some s) r a = refl

no_space : (r q : List ℕ) → EndsRange r → r ≡ 32 ∷ q → ⊥
no_space [] q a e = cc
no_space (b ∷ r) q a e = a.1 (head_same b 32 r q e)

tail_read : (s t : Option ℤ) (r q : List ℕ) → IsStrideWithin s → IsStrideWithin t → EndsRange r → EndsRange q → tail_text s r ≡ tail_text t q → (s ≡ t) ×
    (r ≡ q)
tail_read None None r q h k a b e = (refl, e)
tail_read None (Some t) r q h k a b e = absurd (no_space r _ a e)
tail_read (Some s) None r q h k a b e = absurd (no_space q _ b (sym e))
tail_read (Some s) (Some t) r q h k a b e =
    let after = tail_same 32 32 _ _ (tail_same 121 121 _ _ (tail_same 98 98 _ _ (tail_same 32 32 _ _ e))) in
    let one = integer_read s t r q h k (ends_digits r a) (ends_digits q b) after in
    (ap Some one.0, one.1)

-- two bounds and a stride where it is written
record AreSame (low high low' high' : ℤ) (s t : Option ℤ) (r q : List ℕ) : Type 0 where
  low_same : low ≡ low'
  high_same : high ≡ high'
  stride_same : s ≡ t
  rest_same : r ≡ q

parts_read : (low high low' high' : ℤ) (s t : Option ℤ) (r q : List ℕ) → IsWithin low → IsWithin high → IsWithin low' → IsWithin high' → IsStrideWithin s →
    IsStrideWithin t
    → EndsRange r → EndsRange q → range_text low high s ++ r ≡ range_text low' high' t ++ q → AreSame low high low' high' s t r q
parts_read low high low' high' s t r q l h l' h' i j a b e =
    let first = integer_read low low' (from_dots high s r) (from_dots high' t q) l l' refl refl (sym (in_parts low high s r) ∙ e ∙ in_parts low' high' t q) in
    let second = integer_read high high' (tail_text s r) (tail_text t q) h h' (tail_ends s r a) (tail_ends t q b)
    (tail_same 46 46 _ _ (tail_same 46 46 _ _ first.1)) in
    let third = tail_read s t r q i j a b second.1 in
    record { low_same = first.0; high_same = second.0; stride_same = third.0; rest_same = third.1 }

-- ---- ranges

-- a range is known by its bounds and its stride, all of 64 bits
pub record IsSpelled (xs : List ℤ) : Type 0 where
  pub spelled : sequence (bounds_of xs).0 (bounds_of xs).1 (stride_of xs) None ≡ xs
  pub low : IsWithin (bounds_of xs).0
  pub high : IsWithin (bounds_of xs).1
  pub stride : IsWithin (stride_of xs)

stride_within : (s : ℤ) → IsWithin s → IsStrideWithin (written_stride s)
stride_within s h = elim (int_eq s (pos 1)) as (λ t. IsStrideWithin (if t then None else Some s)) [ true ↦ tt | false ↦ h ]

stride_known : (a b : ℤ) → written_stride a ≡ written_stride b → a ≡ b
stride_known a b e =
    elim (int_eq a (pos 1)) as (λ t. int_eq a (pos 1) ≡ t → (if t then None else Some a) ≡ written_stride b → a ≡ b) [
      | true ↦ λ one. elim (int_eq b (pos 1)) as (λ u. int_eq b (pos 1) ≡ u → None ≡ (if u then None else Some b) → a ≡ b) [
        | true ↦ λ other f. (Decides-int_eq a (pos 1)).0 one ∙ sym ((Decides-int_eq b (pos 1)).0 other)
        | false ↦ λ other f. cc
      ] refl
      | false ↦ λ one. elim (int_eq b (pos 1)) as (λ u. int_eq b (pos 1) ≡ u → Some a ≡ (if u then None else Some b) → a ≡ b) [
        | true ↦ λ other f. cc
        | false ↦ λ other f. some_same a b f
      ] refl
    ] refl e

by_parts : (xs ys : List ℤ) → IsSpelled xs → IsSpelled ys → (bounds_of xs).0 ≡ (bounds_of ys).0 → (bounds_of xs).1 ≡ (bounds_of ys).1 →
    stride_of xs ≡ stride_of ys → xs ≡ ys
by_parts xs ys h k l u s =
    sym h.spelled
    ∙ ap₂ (λ (a b : ℤ). sequence a b (stride_of xs) None) l u
    ∙ ap (λ (z : ℤ). sequence (bounds_of ys).0 (bounds_of ys).1 z None) s
    ∙ k.spelled

pub range_read : IsRead EndsRange IsSpelled text_of_range
range_read xs ys r q h k a b e =
    let all = parts_read _ _ _ _ (written_stride (stride_of xs)) (written_stride (stride_of ys)) r q h.low h.high k.low k.high (stride_within _ h.stride)
    (stride_within _ k.stride) a b e in
    (by_parts xs ys h k all.low_same all.high_same (stride_known _ _ all.stride_same), all.rest_same)

no_range : IsNever EndsRange IsSpelled text_of_range 125
no_range xs r q h a e =
    no_integer 125 (λ x. refl) (bounds_of xs).0 (from_dots (bounds_of xs).1 (written_stride (stride_of xs)) r) q h.low refl
    (sym (in_parts _ _ (written_stride (stride_of xs)) r) ∙ e)

pub rectangle_read : IsRead Any (Each IsSpelled) rectangle_text
rectangle_read = enclosed_read EndsRange IsSpelled text_of_range (codes "{") 125 range_read (λ e. omega (arith, e)) (λ r. (refl, λ e. omega (arith, e)))
    (λ r. (refl, λ e. omega (arith, e))) no_range

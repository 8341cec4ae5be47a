-- What is printed for a range is read back.
use Rattle.std.proofs.Common.{◌≡◌, ◌≢◌, ℕ, ℤ, pos, Decides, Bool, true, false, cond, ◌&&◌, List, [], ◌∷◌, ◌++◌, codes, Option, Some, None, option_and_then}
use Rattle.std.proofs.Common.{option_map, refl, sym, ap, ◌∙◌, append-nil, ne_eqb}
use Rattle.std.proofs.lemmas.Bool.Decides.{Decides-int_eq}
use Rattle.std.specs.Fmt.{signed_decimal}
use Rattle.std.specs.Ordering.{int_eq}
use Rattle.std.specs.Option.{option_map_or}
use Rattle.wb_literals.specs.Integer.{integer_at, IsWithin}
use Rattle.wb_literals.specs.Tokens.{skip_spaces, after_token}
use Rattle.wb_literals.specs.Range.{to_at, below_at, count_at, upper_at, stride_at, range_of}
use Rattle.wb_literals.specs.RangeText.{range_text, unaligned, IsStride}
use Rattle.wb_literals.specs.declared.range.Upper.TheVariants.{To}
use Rattle.wb_literals.specs.declared.range.Stride.{Stride}
use Rattle.wb_literals.proofs.DigitsBack.{EndsDigits, integer_back, integer_first}

skip_none : (b : ℕ) (bytes : List ℕ) → b ≢ 32 → skip_spaces (b ∷ bytes) ≡ b ∷ bytes
skip_none b bytes h = rw (ne_eqb b 32 h) refl

other_dots : (b k : ℕ) (bytes : List ℕ) → b ≢ k → after_token (46 ∷ 46 ∷ k ∷ []) (46 ∷ 46 ∷ b ∷ bytes) ≡ None
other_dots b k bytes h = ap (λ (t : Bool). option_map skip_spaces (cond (t && true) (Some bytes) None)) (ne_eqb k b (λ e. h (sym e)))

upper_by : (b : ℕ) (bytes : List ℕ) → b ≢ 32 → b ≢ 35 → b ≢ 60 → upper_at (46 ∷ 46 ∷ b ∷ bytes) ≡ to_at (b ∷ bytes)
upper_by b bytes space hash less =
    let text : List ℕ = 46 ∷ 46 ∷ b ∷ bytes in
    let last = option_and_then to_at (after_token (codes "..") text) in
    ap (λ (o : Option (List ℕ)). option_map_or below_at o (option_map_or count_at (after_token (codes "..#") text) last)) (other_dots b 60 bytes less)
    ∙ ap (λ (o : Option (List ℕ)). option_map_or count_at o last) (other_dots b 35 bytes hash)
    ∙ ap to_at (skip_none b bytes space)

upper_back : (high : ℤ) (tail : List ℕ) → IsWithin high → EndsDigits tail → upper_at (46 ∷ 46 ∷ (signed_decimal high ++ tail)) ≡ Some (To high, tail)
upper_back high tail h e =
    let f = integer_first high tail h in
    let front : List ℕ → List ℕ = λ x. 46 ∷ 46 ∷ x in
    ap (λ x. upper_at (front x)) f.2 ∙ upper_by f.0 f.1 f.3 f.4 f.5 ∙ ap to_at (sym f.2) ∙
    ap (option_map (λ (n : ℤ × List ℕ). (To n.0, n.1))) (integer_back high tail h e)

low_back : (low : ℤ) (bytes : List ℕ) → IsWithin low → integer_at (signed_decimal low ++ (46 ∷ bytes)) ≡ Some (low, 46 ∷ bytes)
low_back low bytes h = integer_back low (46 ∷ bytes) h refl

number_of : (z : ℤ) → IsWithin z → integer_at (signed_decimal z) ≡ Some (z, [])
number_of z h = ap integer_at (sym (append-nil (signed_decimal z))) ∙ integer_back z [] h tt

unspaced : (z : ℤ) → IsWithin z → skip_spaces (signed_decimal z) ≡ signed_decimal z
unspaced z h =
    let f = integer_first z [] h in
    let e = sym (append-nil (signed_decimal z)) ∙ f.2 in
    ap skip_spaces e ∙ skip_none f.0 f.1 f.3 ∙ sym e

decided_no : (b : Bool) (P : Type 0) → Decides b P → (P → ⊥) → b ≡ false
decided_no true P d n = absurd (n (d.0 refl))
decided_no false P d n = refl

decided_yes : (b : Bool) (P : Type 0) → Decides b P → P → b ≡ true
decided_yes true P d h = refl
decided_yes false P d h = d.1 h

pub int_same : (z : ℤ) → z ≡ pos 0 → int_eq z (pos 0) ≡ true
int_same z h = decided_yes (int_eq z (pos 0)) (z ≡ pos 0) (Decides-int_eq z (pos 0)) h

pub int_ne : (z : ℤ) → z ≢ pos 0 → int_eq z (pos 0) ≡ false
int_ne z h = decided_no (int_eq z (pos 0)) (z ≡ pos 0) (Decides-int_eq z (pos 0)) h

stride_back : (stride : ℤ) → IsWithin stride → stride ≢ pos 0 →
    stride_at (codes " by " ++ signed_decimal stride) ≡ Some (Some (record { stride = stride; align = None }), [])
stride_back stride h n = rw (unspaced stride h, number_of stride h, int_ne stride n) refl

range_by : (low high : ℤ) (tail : List ℕ) (s : Option Stride) → IsWithin low → IsWithin high → EndsDigits tail → stride_at tail ≡ Some (s, [])
    → range_of (signed_decimal low ++ (46 ∷ 46 ∷ (signed_decimal high ++ tail))) ≡ Some (record { low = low; upper = To high; stride = s })
range_by low high tail s l h e t = rw (low_back low (46 ∷ (signed_decimal high ++ tail)) l, upper_back high tail h e, t) refl

pub range_back : (low high : ℤ) (stride : Option ℤ) → IsWithin low → IsWithin high → IsStride stride →
    range_of (range_text low high stride) ≡ Some (record { low = low; upper = To high; stride = unaligned stride })
range_back low high None l h s = ap (λ (x : List ℕ). range_of (signed_decimal low ++ (46 ∷ 46 ∷ x))) (sym (append-nil (signed_decimal high))) ∙
    range_by low high [] None l h tt refl
range_back low high (Some stride) l h s = range_by low high (codes " by " ++ signed_decimal stride) (Some (record { stride = stride; align = None })) l h refl
    (stride_back stride s.0 s.1)

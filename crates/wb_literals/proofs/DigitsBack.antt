-- What is printed is read back.
use Rattle.std.proofs.Common.{◌≡◌, ◌≢◌, ℕ, suc, ◌+◌, ◌-◌, ◌*◌, ◌/◌, ◌%◌, ◌^◌, ◌<◌, ◌≤◌, ℤ, pos, negsuc, true, false, List, [], ◌∷◌, ◌++◌, Some, refl, sym, ap}
use Rattle.std.proofs.Common.{◌∙◌, arith, decimal, append_assoc, ne_eqb, le-leb, lt-ltb}
use Rattle.std.proofs.lemmas.Fmt.{decimal_by_steps}
use Rattle.std.specs.Fmt.{signed_decimal}
use Rattle.wb_literals.specs.Integer.{is_digit, digits_from, digits_at, integer_at, IsWithin}

-- the text doesn't go on with a digit
abbrev pub EndsDigits : List ℕ → Type 0
EndsDigits [] = Unit {0}
EndsDigits (b ∷ bytes) = is_digit b ≡ false

-- the first byte of a number's text, and how the digits are read on
record Spelled (n : ℕ) (ds rest : List ℕ) : Type 0 where
  first : ℕ
  more : List ℕ
  is : ds ++ rest ≡ first ∷ more
  low : 48 ≤ first
  high : first ≤ 57
  read : digits_at (ds ++ rest) ≡ Some (digits_from n rest)

digit_true : (d : ℕ) → d < 10 → is_digit (48 + d) ≡ true
digit_true d h = rw (le-leb 48 (48 + d) (omega arith), le-leb (48 + d) 57 (omega (arith, h))) refl

read_one : (d : ℕ) (rest : List ℕ) → d < 10 → digits_at ((48 + d) ∷ rest) ≡ Some (digits_from d rest)
read_one d rest h = let e : (48 + d) - 48 ≡ d = omega arith in rw (digit_true d h, e) refl

read_more : (n d : ℕ) (rest : List ℕ) → d < 10 → digits_from n ((48 + d) ∷ rest) ≡ digits_from (10 * n + d) rest
read_more n d rest h = let e : (48 + d) - 48 ≡ d = omega arith in rw (digit_true d h, e) refl

spelled_one : (n : ℕ) → n < 10 → (rest : List ℕ) → Spelled n ((48 + n) ∷ []) rest
spelled_one n h rest = record { first = 48 + n; more = rest; is = refl; low = omega arith; high = omega (arith, h); read = read_one n rest h }

spelled_more : (n : ℕ) (ds : List ℕ) → 10 ≤ n → ((rest : List ℕ) → Spelled (n / 10) ds rest) → (rest : List ℕ) → Spelled n (ds ++ ((48 + n % 10) ∷ [])) rest
spelled_more n ds h s rest =
    let before = s ((48 + n % 10) ∷ rest) in
    let small : n % 10 < 10 = omega arith in
    let whole : 10 * (n / 10) + n % 10 ≡ n = omega arith in
    let joined = append_assoc ds ((48 + n % 10) ∷ []) rest in
    record {
      first = before.first;
      more = before.more;
      is = joined ∙ before.is;
      low = before.low;
      high = before.high;
      read = ap digits_at joined ∙ before.read ∙ ap (λ x. Some x) (read_more (n / 10) (n % 10) rest small ∙ ap (λ k. digits_from k rest) whole);
    }

spelled : (n : ℕ) → n < 2 ^ 64 → (rest : List ℕ) → Spelled n (decimal n) rest
spelled n h = decimal_by_steps (λ n ds. (rest : List ℕ) → Spelled n ds rest) spelled_one spelled_more n h

digits_end : (n : ℕ) (rest : List ℕ) → EndsDigits rest → digits_from n rest ≡ (n, rest)
digits_end n [] h = refl
digits_end n (b ∷ bytes) h = rw h refl

pub digits_back : (n : ℕ) (rest : List ℕ) → n < 2 ^ 64 → EndsDigits rest → digits_at (decimal n ++ rest) ≡ Some (n, rest)
digits_back n rest h e = (spelled n h rest).read ∙ ap (λ x. Some x) (digits_end n rest e)

plus_back : (b n : ℕ) (bytes rest : List ℕ) → 48 ≤ b → n < 2 ^ 63 → digits_at (b ∷ bytes) ≡ Some (n, rest) → integer_at (b ∷ bytes) ≡ Some (pos n, rest)
plus_back b n bytes rest low h e =
    let f : b ≢ 45 = λ x. omega (arith, low, x) in
    rw (ne_eqb b 45 f, e, lt-ltb n (2 ^ 63) h) refl

-- an integer within i64, whatever follows but a digit
pub integer_back : (z : ℤ) (rest : List ℕ) → IsWithin z → EndsDigits rest → integer_at (signed_decimal z ++ rest) ≡ Some (z, rest)
integer_back (pos n) rest h e =
    let s = spelled n (omega (arith, h)) rest in
    ap integer_at s.is ∙ plus_back s.first n s.more rest s.low h (ap digits_at (sym s.is) ∙ digits_back n rest (omega (arith, h)) e)
integer_back (negsuc n) rest h e = rw (digits_back (suc n) rest (omega (arith, h)) e, le-leb (suc n) (2 ^ 63) (omega (arith, h))) refl

-- the first byte of an integer's text
pub integer_first : (z : ℤ) (rest : List ℕ) → IsWithin z → (b : ℕ) × (bytes : List ℕ) × (signed_decimal z ++ rest ≡ b ∷ bytes) × (b ≢ 32) × (b ≢ 35) × (b ≢ 60)
integer_first (pos n) rest h =
    let s = spelled n (omega (arith, h)) rest in
    let low = s.low in let high = s.high in
    (s.first, s.more, s.is, λ x. omega (arith, low, x), λ x. omega (arith, low, x), λ x. omega (arith, high, x))
integer_first (negsuc n) rest h = (45, decimal (suc n) ++ rest, refl, λ x. omega (arith, x), λ x. omega (arith, x), λ x. omega (arith, x))

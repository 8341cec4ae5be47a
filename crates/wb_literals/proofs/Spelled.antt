-- What is read at the front is spelled so, and what is spelled so is read.
use Rattle.std.proofs.Common.{◌≡◌, ℕ, ◌+◌, ◌-◌, ◌*◌, ◌^◌, ◌<◌, ◌≤◌, ℤ, pos, neg_ℤ, Bool, true, false, cond, List, [], ◌∷◌, ◌++◌, Option, Some, None}
use Rattle.std.proofs.Common.{option_and_then, refl, sym, ap, ◌∙◌, subst, arith, nat_eq, nat_le, nat_lt, le-leb, lt-ltb, ltb-true, MatchBool, ◌↔◌, append-nil}
use Rattle.std.proofs.lemmas.Bool.{leb-true}
use Rattle.std.proofs.lemmas.Option.{option_and_then_some, some_pair_parts}
use Rattle.wb_literals.specs.Integer.{is_digit, digits_from, digits_at, integer_at, negative, nonnegative}
use Rattle.wb_literals.specs.Spelling.{AreDigits, value_from, IsNatural, IsInteger}
use Rattle.wb_literals.proofs.DigitsBack.{EndsDigits}

digits_end : (n : ℕ) (rest : List ℕ) → EndsDigits rest → digits_from n rest ≡ (n, rest)
digits_end n [] h = refl
digits_end n (b ∷ bytes) h = rw h refl

digits_run : (n : ℕ) (ds rest : List ℕ) → AreDigits ds → EndsDigits rest → digits_from n (ds ++ rest) ≡ (value_from n ds, rest)
digits_run n [] rest h e = digits_end n rest e
digits_run n (b ∷ ds) rest h e = rw h.0 (digits_run (10 * n + (b - 48)) ds rest h.1 e)

-- nothing that is spelled as a number is refused
pub natural_read : (text rest : List ℕ) (n : ℕ) → IsNatural text n → EndsDigits rest → digits_at (text ++ rest) ≡ Some (n, rest)
natural_read [] rest n h e = absurd (h.1 refl)
natural_read (b ∷ ds) rest n h e =
    let zero_on : value_from 0 (b ∷ ds) ≡ value_from (b - 48) ds = ap (λ k. value_from k ds) (omega arith) in
    rw h.0.0 (ap (λ x. Some x) (digits_run (b - 48) ds rest h.0.1 e ∙ ap (λ (k : ℕ). (k, rest)) (sym (h.2 ∙ zero_on))))

-- what is read, and what is left
pub record Splits (n : ℕ) (bytes : List ℕ) : Type 0 where
  pub ds : List ℕ
  pub rest : List ℕ
  pub digits : AreDigits ds
  pub ends : EndsDigits rest
  pub bytes_are : bytes ≡ ds ++ rest
  pub read : digits_from n bytes ≡ (value_from n ds, rest)

split_by : (t : Bool) (n b : ℕ) (bytes : List ℕ) → is_digit b ≡ t → Splits (10 * n + (b - 48)) bytes → Splits n (b ∷ bytes)
split_by true n b bytes e s = record {
  ds = b ∷ s.ds;
  rest = s.rest;
  digits = (e, s.digits);
  ends = s.ends;
  bytes_are = ap (λ x. b ∷ x) s.bytes_are;
  read =
      rw e s.read;
}
split_by false n b bytes e s = record { ds = []; rest = b ∷ bytes; digits = tt; ends = e; bytes_are = refl; read = rw e refl }

pub split_digits : (n : ℕ) (bytes : List ℕ) → Splits n bytes
split_digits n [] = record { ds = []; rest = []; digits = tt; ends = tt; bytes_are = refl; read = refl }
split_digits n (b ∷ bytes) = split_by (is_digit b) n b bytes refl (split_digits (10 * n + (b - 48)) bytes)

found_by : (t : Bool) (b n : ℕ) (bytes rest : List ℕ) → is_digit b ≡ t → cond t (Some (digits_from (b - 48) bytes)) None ≡ Some (n, rest)
    → (text : List ℕ) × IsNatural text n × EndsDigits rest × (b ∷ bytes ≡ text ++ rest)
found_by true b n bytes rest e h =
    let s = split_digits (b - 48) bytes in
    let both : (value_from (b - 48) s.ds, s.rest) ≡ (n, rest) = let x = s.read in cc in
    let left : value_from (b - 48) s.ds ≡ n = ap (λ (p : ℕ × List ℕ). p.0) both in
    let right : s.rest ≡ rest = ap (λ (p : ℕ × List ℕ). p.1) both in
    let zero_on : value_from 0 (b ∷ s.ds) ≡ value_from (b - 48) s.ds = ap (λ k. value_from k s.ds) (omega arith) in
    (b ∷ s.ds, ((e, s.digits), (λ x. cc), sym (zero_on ∙ left)), subst EndsDigits right s.ends, ap (λ x. b ∷ x) (s.bytes_are ∙ ap (λ x. s.ds ++ x) right))
found_by false b n bytes rest e h = absurd (cc)

-- what is read as a number is spelled so, as far as its digits go
pub natural_found : (bytes rest : List ℕ) (n : ℕ) → digits_at bytes ≡ Some (n, rest) → (text : List ℕ) × IsNatural text n × EndsDigits rest ×
    (bytes ≡ text ++ rest)
natural_found [] rest n h = absurd (cc)
natural_found (b ∷ bytes) rest n h = found_by (is_digit b) b n bytes rest refl h

read_by : (t : Bool) (b : ℕ) (bytes rest : List ℕ) (z : ℤ) → EndsDigits rest
    → MatchBool t ((n : ℕ) × IsNatural bytes n × (n ≤ 2 ^ 63) × (z ≡ neg_ℤ (pos n))) ((n : ℕ) × IsNatural (b ∷ bytes) n × (n < 2 ^ 63) × (z ≡ pos n))
    → cond t (option_and_then negative (digits_at (bytes ++ rest))) (option_and_then nonnegative (digits_at (b ∷ (bytes ++ rest)))) ≡ Some (z, rest)
read_by true b bytes rest z e (n, s, h, v) = rw (natural_read bytes rest n s e, le-leb n (2 ^ 63) h) (ap (λ (k : ℤ). Some (k, rest)) (sym v))
read_by false b bytes rest z e (n, s, h, v) = rw (natural_read (b ∷ bytes) rest n s e, lt-ltb n (2 ^ 63) h) (ap (λ (k : ℤ). Some (k, rest)) (sym v))

-- nothing that is spelled as an integer is refused
pub integer_read : (text rest : List ℕ) (z : ℤ) → IsInteger text z → EndsDigits rest → integer_at (text ++ rest) ≡ Some (z, rest)
integer_read [] rest z h e = absurd h
integer_read (b ∷ bytes) rest z h e = read_by (nat_eq b 45) b bytes rest z e h

minus_by : (t : Bool) (n : ℕ) (left rest : List ℕ) (z : ℤ) → nat_le n (2 ^ 63) ≡ t →
    cond {A = Option (ℤ × List ℕ)} t (Some (neg_ℤ (pos n), left)) None ≡ Some (z, rest) → (n ≤ 2 ^ 63) × (z ≡ neg_ℤ (pos n)) × (left ≡ rest)
minus_by true n left rest z t e = let p = some_pair_parts (neg_ℤ (pos n)) z left rest e in (leb-true n (2 ^ 63) t, sym p.0, p.1)
minus_by false n left rest z t e = absurd (cc)

plus_by : (t : Bool) (n : ℕ) (left rest : List ℕ) (z : ℤ) → nat_lt n (2 ^ 63) ≡ t →
    cond {A = Option (ℤ × List ℕ)} t (Some (pos n, left)) None ≡ Some (z, rest) → (n < 2 ^ 63) × (z ≡ pos n) × (left ≡ rest)
plus_by true n left rest z t e = let p = some_pair_parts (pos n) z left rest e in (ltb-true n (2 ^ 63) t, sym p.0, p.1)
plus_by false n left rest z t e = absurd (cc)

as_plus : (b : ℕ) (bytes rest text : List ℕ) (z : ℤ) → b ∷ bytes ≡ text ++ rest → nat_eq b 45 ≡ false →
    ((n : ℕ) × IsNatural text n × (n < 2 ^ 63) × (z ≡ pos n)) → IsInteger text z
as_plus b bytes rest [] z w e (n, s, h, v) = absurd (s.1 refl)
as_plus b bytes rest (c ∷ text) z w e (n, s, h, v) = let same : nat_eq c 45 ≡ false = let x : b ≡ c = cc in ap (λ k. nat_eq k 45) (sym x) ∙ e in
    rw same (n, s, h, v)

integer_by : (t : Bool) (b : ℕ) (bytes rest : List ℕ) (z : ℤ)
    → cond t (option_and_then negative (digits_at bytes)) (option_and_then nonnegative (digits_at (b ∷ bytes))) ≡ Some (z, rest) → nat_eq b 45 ≡ t
    → (text : List ℕ) × IsInteger text z × EndsDigits rest × (b ∷ bytes ≡ text ++ rest)
integer_by true b bytes rest z h e = option_and_then_some negative (digits_at bytes) (z, rest) h (λ d o f.
    let fits = minus_by (nat_le d.0 (2 ^ 63)) d.0 d.1 rest z refl f in
    let s = natural_found bytes d.1 d.0 o in
    (b ∷ s.0, rw e (d.0, s.1, fits.0, fits.1), subst EndsDigits fits.2 s.2, ap (λ x. b ∷ x) (s.3 ∙ ap (λ x. s.0 ++ x) fits.2)))
integer_by false b bytes rest z h e = option_and_then_some nonnegative (digits_at (b ∷ bytes)) (z, rest) h (λ d o f.
    let fits = plus_by (nat_lt d.0 (2 ^ 63)) d.0 d.1 rest z refl f in
    let s = natural_found (b ∷ bytes) d.1 d.0 o in
    let whole = s.3 ∙ ap (λ x. s.0 ++ x) fits.2 in
    (s.0, as_plus b bytes rest s.0 z whole e (d.0, s.1, fits.0, fits.1), subst EndsDigits fits.2 s.2, whole))

-- what is read as an integer is spelled so
pub integer_found : (bytes rest : List ℕ) (z : ℤ) → integer_at bytes ≡ Some (z, rest) → (text : List ℕ) × IsInteger text z × EndsDigits rest ×
    (bytes ≡ text ++ rest)
integer_found [] rest z h = absurd (cc)
integer_found (b ∷ bytes) rest z h = integer_by (nat_eq b 45) b bytes rest z h refl

-- an integer is the whole of a text just where the text is its spelling
pub integer_whole : (text : List ℕ) (z : ℤ) → (integer_at text ≡ Some (z, [])) ↔ IsInteger text z
integer_whole text z = (
  λ e. let f = integer_found text [] z e in subst (λ (x : List ℕ). IsInteger x z) (sym (f.3 ∙ append-nil f.0)) f.1,
  λ h. ap integer_at (sym (append-nil text)) ∙ integer_read text [] z h tt,
)

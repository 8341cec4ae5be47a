-- Digits read with a number that stops past every i64.
use Rattle.std.proofs.Common.{◌≡◌, ℕ, ◌+◌, ◌-◌, ◌*◌, ◌^◌, ◌<◌, ◌≤◌, min, Bool, true, false, cond, List, [], ◌∷◌, sym, ap, ◌∙◌, length, get_or, drop, arith}
use Rattle.std.proofs.lemmas.List.{drop_more, drop_all}
use Rattle.wb_literals.specs.Integer.{is_digit, digits_from, capped}

by_test : (t : Bool) (m n b : ℕ) (bytes : List ℕ) → min m (2 ^ 63 + 1) ≡ min n (2 ^ 63 + 1)
    → capped (digits_from (10 * m + (b - 48)) bytes) ≡ capped (digits_from (10 * n + (b - 48)) bytes)
    → capped (cond t (digits_from (10 * m + (b - 48)) bytes) (m, b ∷ bytes)) ≡ capped (cond t (digits_from (10 * n + (b - 48)) bytes) (n, b ∷ bytes))
by_test true m n b bytes e h = h
by_test false m n b bytes e h = ap (λ (k : ℕ). (k, b ∷ bytes)) e

-- two numbers past every i64 go on alike
pub capped_same : (m n : ℕ) (bytes : List ℕ) → min m (2 ^ 63 + 1) ≡ min n (2 ^ 63 + 1) → capped (digits_from m bytes) ≡ capped (digits_from n bytes)
capped_same m n [] e = let f : ℕ → ℕ × List ℕ = λ k. (k, []) in ap f e
capped_same m n (b ∷ bytes) e = by_test (is_digit b) m n b bytes e (capped_same (10 * m + (b - 48)) (10 * n + (b - 48)) bytes (omega (arith, e)))

by_digit : (t : Bool) (n b : ℕ) (bytes : List ℕ) → t ≡ true →
    capped (digits_from (min (10 * n + (b - 48)) (2 ^ 63 + 1)) bytes) ≡ capped (cond t (digits_from (10 * n + (b - 48)) bytes) (n, b ∷ bytes))
by_digit true n b bytes e = capped_same (min (10 * n + (b - 48)) (2 ^ 63 + 1)) (10 * n + (b - 48)) bytes (omega arith)
by_digit false n b bytes e = cc

by_other : (t : Bool) (n b : ℕ) (bytes : List ℕ) → t ≡ false → n ≤ 2 ^ 63 + 1 →
    capped (cond t (digits_from (10 * n + (b - 48)) bytes) (n, b ∷ bytes)) ≡ (n, b ∷ bytes)
by_other true n b bytes e h = cc
by_other false n b bytes e h = let f : min n (2 ^ 63 + 1) ≡ n = omega (arith, h) in let p : ℕ → ℕ × List ℕ = λ k. (k, b ∷ bytes) in ap p f

along : (n : ℕ) (xs ys : List ℕ) → xs ≡ ys → capped (digits_from n xs) ≡ capped (digits_from n ys)
along n xs ys e = ap (λ x. capped (digits_from n x)) e

-- a digit more
pub step_at : (number i : ℕ) (bytes : List ℕ) → i < length bytes → is_digit (get_or bytes i 0) ≡ true
    → capped (digits_from (min (10 * number + (get_or bytes i 0 - 48)) (2 ^ 63 + 1)) (drop (i + 1) bytes)) ≡ capped (digits_from number (drop i bytes))
step_at number i bytes h t = by_digit (is_digit (get_or bytes i 0)) number (get_or bytes i 0) (drop (i + 1) bytes) t ∙
    along number _ _ (sym (drop_more bytes i 0 h))

-- no digit more
pub stop_at : (number i : ℕ) (bytes : List ℕ) → number ≤ 2 ^ 63 + 1 → i < length bytes → is_digit (get_or bytes i 0) ≡ false →
    capped (digits_from number (drop i bytes)) ≡ (number, drop i bytes)
stop_at number i bytes m h t =
    let e = drop_more bytes i 0 h in
    along number _ _ e ∙ by_other (is_digit (get_or bytes i 0)) number (get_or bytes i 0) (drop (i + 1) bytes) t m ∙ ap (λ (x : List ℕ). (number, x)) (sym e)

pub end_at : (number i : ℕ) (bytes : List ℕ) → number ≤ 2 ^ 63 + 1 → length bytes ≤ i → capped (digits_from number (drop i bytes)) ≡ (number, drop i bytes)
end_at number i bytes m h =
    let e = drop_all i bytes h in
    let f : min number (2 ^ 63 + 1) ≡ number = omega (arith, m) in
    along number _ _ e ∙ ap (λ (k : ℕ). (k, [])) f ∙ ap (λ (x : List ℕ). (number, x)) (sym e)

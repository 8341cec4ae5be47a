-- The last line of a text.
use Rattle.std.proofs.Common.{◌≡◌, ◌≢◌, ℕ, zero, suc, ◌+◌, ◌<◌, ◌≤◌, List, [], ◌∷◌, ◌++◌, length, get_or, take, drop, refl, ap, ◌∙◌, subst, sym, arith, Option}
use Rattle.std.proofs.Common.{None, Some, option_map, eq-eqb, eqb-true}
use Rattle.memchr.specs.Find.{IsLastByte, is_byte}
use Rattle.wb_lines.specs.Lines.{IsUnbroken}
use Rattle.wb_machine.specs.Histories.Lines.{IsLastLine}

-- ---- it is found

unbroken_from : (bytes : List ℕ) (n : ℕ) → ((k : ℕ) → n ≤ k → k < length bytes → get_or bytes k 0 ≢ 10) → IsUnbroken (drop n bytes)
unbroken_from [] zero h = tt
unbroken_from [] (suc n) h = tt
unbroken_from (b ∷ bytes) zero h = (h 0 (omega arith) (omega arith), unbroken_from bytes zero (λ k l m. h (suc k) (omega arith) (omega (arith, m))))
unbroken_from (b ∷ bytes) (suc n) h = unbroken_from bytes n (λ k l m. h (suc k) (omega (arith, l)) (omega (arith, m)))

split_there : (bytes : List ℕ) (n : ℕ) → n < length bytes → get_or bytes n 0 ≡ 10 → bytes ≡ take n bytes ++ 10 ∷ drop (n + 1) bytes
split_there [] n h e = absurd (omega (arith, h))
split_there (b ∷ bytes) zero h e = ap (λ x. x ∷ bytes) e
split_there (b ∷ bytes) (suc n) h e = let f : suc n + 1 ≡ suc (n + 1) = omega arith in rw f (ap (λ x. b ∷ x) (split_there bytes n (omega (arith, h)) e))

pub last_found : (bytes : List ℕ) (r : Option ℕ) → IsLastByte (is_byte 10) bytes r → IsLastLine bytes (option_map (λ n. (take n bytes, drop (n + 1) bytes)) r)
last_found bytes None h = unbroken_from bytes zero (λ k l m e. h k (omega arith) m (eq-eqb _ _ e))
last_found bytes (Some n) h = (split_there bytes n h.0.high (eqb-true _ _ h.1), unbroken_from bytes (n + 1) (λ k l m e. h.0.after k l m (eq-eqb _ _ e)))

-- ---- there is one

pub broken : (xs line : List ℕ) → IsUnbroken (xs ++ 10 ∷ line) → ⊥
broken [] line u = u.0 refl
broken (x ∷ xs) line u = broken xs line u.1

pub same_last : (xs ys l m : List ℕ) → xs ++ 10 ∷ l ≡ ys ++ 10 ∷ m → IsUnbroken l → IsUnbroken m → (xs ≡ ys) × (l ≡ m)
same_last [] [] l m e u v = (refl, cc)
same_last [] (y ∷ ys) l m e u v = let f : l ≡ ys ++ 10 ∷ m = cc in absurd (broken ys m (subst IsUnbroken f u))
same_last (x ∷ xs) [] l m e u v = let f : xs ++ 10 ∷ l ≡ m = cc in absurd (broken xs l (subst IsUnbroken (sym f) v))
same_last (x ∷ xs) (y ∷ ys) l m e u v =
    let head : x ≡ y = cc in
    let f : xs ++ 10 ∷ l ≡ ys ++ 10 ∷ m = cc in
    let rest = same_last xs ys l m f u v in
    (rw (head, rest.0) refl, rest.1)

pub last_is : (bytes before line : List ℕ) (r : Option (List ℕ × List ℕ)) → IsLastLine bytes r → bytes ≡ before ++ 10 ∷ line → IsUnbroken line →
    r ≡ Some (before, line)
last_is bytes before line None h e u = absurd (broken before line (subst IsUnbroken e h))
last_is bytes before line (Some (b, l)) h e u =
    let same = same_last b before l line (sym h.0 ∙ e) h.1 u in
    rw (same.0, same.1) refl

-- Lists of integers and implicit values are read back.
use Rattle.std.proofs.Common.{◌≡◌, ℕ, ℤ, List, [], ◌∷◌, ◌++◌, codes, Option, Some, None, option_map, option_and_then, refl, ap, ◌∙◌, append_assoc}
use Rattle.std.proofs.lemmas.List.{map-id}
use Rattle.std.specs.Fmt.{signed_decimal}
use Rattle.std.specs.List.{flat_map}
use Rattle.std.specs.Option.{option_map_or}
use Rattle.wb_literals.specs.Integer.{integer_at, IsWithin}
use Rattle.wb_literals.specs.Integers.{filled_at, integers_at}
use Rattle.wb_literals.specs.Tokens.{after, close_at}
use Rattle.wb_literals.proofs.DigitsBack.{integer_back}
use Rattle.wb_literals.proofs.ListGrammar.{bracket}
use Rattle.wb_literals.proofs.RangeGrammar.{Ends, Starts, ends_digits, integer_starts, starts_unspaced}
use Rattle.wb_literals.proofs.TokenLemmas.{NoSpace, skip_over, not_after}
use Rattle.wb_text.specs.Literals.{further, integers_text}
use Rattle.wb_text.specs.Lines.{implicit_text}
use Rattle.wb_text.proofs.ReadIndices.{AreWithin}
use Rattle.wb_text.proofs.ReadLines.{IsImplicit}
use Rattle.wb_text.specs.Parsed.Parts.{elements_at, last_integer_at, implicit_at}
use Rattle.wb_text.proofs.Parsed.Back.Spelled.{integer_spelled}
use Rattle.wb_text.proofs.Parsed.Back.Items.{all_back, inside}
use Rattle.std.proofs.Common.{inl, inr, arith}

integer_unspaced : (z : ℤ) (rest : List ℕ) → IsWithin z → NoSpace (signed_decimal z ++ rest)
integer_unspaced z rest h = starts_unspaced (signed_decimal z) rest (integer_starts (signed_decimal z) z (integer_spelled z h))

integer_again : (z : ℤ) (rest : List ℕ) → IsWithin z → Ends rest → integer_at (signed_decimal z ++ rest) ≡ Some (z, rest)
integer_again z rest h f = integer_back z rest h (ends_digits rest f)

-- no number begins with the closing bracket
starts_open : (text rest : List ℕ) → Starts text → after (93 ∷ []) (text ++ rest) ≡ None
starts_open [] rest h = absurd h
starts_open (b ∷ text) rest (inl e) = not_after 93 b [] (text ++ rest) (λ x. omega (arith, x, e))
starts_open (b ∷ text) rest (inr h) = let high = h.1 in not_after 93 b [] (text ++ rest) (λ x. omega (arith, x, high))

abbrev behind : List ℤ → List ℕ → List ℕ
behind zs rest = flat_map (further signed_decimal) zs ++ (93 ∷ rest)

filled_back : (z : ℤ) (zs : List ℤ) (rest : List ℕ) → AreWithin (z ∷ zs) → filled_at (signed_decimal z ++ behind zs rest) ≡ Some (z ∷ zs, rest)
filled_back z zs rest h =
    ap (option_and_then (λ (x : List ℤ × List ℕ). option_map (λ (rest : List ℕ). (x.0, rest)) (close_at (codes "]") x.1)))
    (all_back integer_at signed_decimal (λ z. z) IsWithin 93 bracket integer_again integer_unspaced z zs rest h)
    ∙ ap (λ ys. Some (ys, rest)) (map-id (z ∷ zs))

integers_back : (zs : List ℤ) (rest : List ℕ) → AreWithin zs → integers_at (integers_text zs ++ rest) ≡ Some (zs, rest)
integers_back [] rest h = refl
integers_back (z ∷ zs) rest h =
    let text : List ℕ = signed_decimal z ++ behind zs rest in
    let go : List ℕ → Option (List ℤ × List ℕ) = λ inside. option_map_or (λ (rest : List ℕ). Some ([], rest)) (after (codes "]") inside) (filled_at inside) in
    ap integers_at (inside integer_at signed_decimal (λ z. z) IsWithin 93 bracket integer_again integer_unspaced (codes "[") z zs rest)
    ∙ ap go (skip_over [] text tt (integer_unspaced z (behind zs rest) h.0))
    ∙ ap (λ (o : Option (List ℕ)). option_map_or (λ (rest : List ℕ). Some ([], rest)) o (filled_at text))
    (starts_open (signed_decimal z) (behind zs rest) (integer_starts (signed_decimal z) z (integer_spelled z h.0)))
    ∙ filled_back z zs rest h

pub elements_back : (zs : List ℤ) (rest : List ℕ) → AreWithin zs → elements_at (32 ∷ (integers_text zs ++ rest)) ≡ Some (zs, rest)
elements_back = integers_back

pub implicit_back : (irv : Option ℤ) (rest : List ℕ) → IsImplicit irv → implicit_at ((implicit_text irv ++ codes "\n") ++ rest) ≡ Some (irv, rest)
implicit_back None rest h = refl
implicit_back (Some z) rest h =
    ap last_integer_at (append_assoc (signed_decimal z) (codes "\n") rest)
    ∙ ap (option_and_then (λ (v : ℤ × List ℕ). option_and_then (λ (rest : List ℕ). Some (Some v.0, rest)) (after (codes "\n") v.1)))
    (integer_back z (10 ∷ rest) h refl)

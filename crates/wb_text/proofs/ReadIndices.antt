-- Integers, names, texts and indices are read in one way.
use Rattle.std.proofs.Common.{◌≡◌, ◌≢◌, ◌==◌, ◌&&◌, ◌||◌, nat_le, Bool, ℕ, ℤ, true, false, List, [], ◌∷◌, ◌++◌, codes, Option, Some, None, length, refl, sym}
use Rattle.std.proofs.Common.{ap, ◌∙◌, append_assoc, arith}
use Rattle.std.specs.Fmt.{signed_decimal}
use Rattle.std.specs.List.{list_all}
use Rattle.wb_sets.specs.Labels.{is_plain}
use Rattle.wb_cells.specs.Names.{is_name, is_name_part, is_letter}
use Rattle.wb_cells.specs.declared.values.index.Index.{Index}
use Rattle.wb_cells.specs.declared.values.index.Index.TheVariants.{Point, Text}
use Rattle.wb_literals.specs.Integer.{integer_at, IsWithin}
use Rattle.wb_literals.proofs.DigitsBack.{EndsDigits, integer_back}
use Rattle.wb_text.specs.Literals.{enclosed, point_text, index_text, set_text, integers_text}
use Rattle.wb_text.proofs.Readable.{IsRead, IsNever, Each, Any, bytes_until, head_same, tail_same, enclosed_read}

-- ---- integers

-- an integer that is read at the front of a text, and what follows it
abbrev pub found : ℤ → List ℕ → Option (ℤ × List ℕ)
found z r = Some (z, r)

pub some_same : {X : Type 0} (x y : X) → Some x ≡ Some y → x ≡ y
some_same x y e = cc

no_some : {X : Type 0} (x : X) → Some x ≡ None → ⊥
no_some x e = cc

found_same : (z w : ℤ) (r q : List ℕ) → found z r ≡ found w q → (z ≡ w) × (r ≡ q)
found_same z w r q e = let both = some_same (z, r) (w, q) e in (ap (λ (p : ℤ × List ℕ). p.0) both, ap (λ (p : ℤ × List ℕ). p.1) both)

found_none : (z : ℤ) (r : List ℕ) → found z r ≡ None → ⊥
found_none z r e = no_some (z, r) e

pub integer_read : IsRead EndsDigits IsWithin signed_decimal
integer_read z w r q h k a b e = found_same z w r q (sym (integer_back z r h a) ∙ ap integer_at e ∙ integer_back w q k b)

pub no_integer : (b : ℕ) → ((q : List ℕ) → integer_at (b ∷ q) ≡ None) → IsNever EndsDigits IsWithin signed_decimal b
no_integer b none z r q h a e = found_none z r (sym (integer_back z r h a) ∙ ap integer_at e ∙ none q)

-- a list of integers between one pair of tokens
abbrev pub AreWithin : List ℤ → Type 0
AreWithin = Each IsWithin

pub listed_read : (left : List ℕ) → IsRead Any AreWithin (enclosed left (codes "]") signed_decimal)
listed_read left = enclosed_read EndsDigits IsWithin signed_decimal left 93 integer_read (λ e. omega (arith, e)) (λ r. refl) (λ r. refl)
    (no_integer 93 (λ q. refl))

pub tuple_read : (left : List ℕ) → IsRead Any AreWithin (enclosed left (codes ")") signed_decimal)
tuple_read left = enclosed_read EndsDigits IsWithin signed_decimal left 41 integer_read (λ e. omega (arith, e)) (λ r. refl) (λ r. refl)
    (no_integer 41 (λ q. refl))

pub integers_read : IsRead Any AreWithin integers_text
integers_read = listed_read (codes "[")

-- ---- indices by their coordinates

-- one coordinate or more, each of 64 bits
abbrev pub IsPoint : List ℤ → Type 0
IsPoint [] = ⊥
IsPoint (i ∷ is) = AreWithin (i ∷ is)

pub point_read : IsRead EndsDigits IsPoint point_text
unfolding point_text
point_read [] ys r q h k a b e = absurd h
point_read (i ∷ is) [] r q h k a b e = absurd k
point_read (i ∷ []) (j ∷ []) r q h k a b e = let one = integer_read i j r q h.0 k.0 a b e in let same = one.0 in (cc, one.1)
point_read (i ∷ []) (j ∷ (l ∷ js)) r q h k a b e = absurd (no_integer 40 (λ t. refl) i r _ h.0 a e)
point_read (i ∷ (l ∷ is)) (j ∷ []) r q h k a b e = absurd (no_integer 40 (λ t. refl) j q _ k.0 b (sym e))
point_read (i ∷ (l ∷ is)) (j ∷ (m ∷ js)) r q h k a b e = tuple_read (codes "(") (i ∷ (l ∷ is)) (j ∷ (m ∷ js)) r q h k tt tt e

-- no index by its coordinates begins with a byte that begins no integer, but for the parenthesis
pub no_point : (b : ℕ) → b ≢ 40 → ((q : List ℕ) → integer_at (b ∷ q) ≡ None) → IsNever EndsDigits IsPoint point_text b
unfolding point_text
no_point b other none [] r q h a e = absurd h
no_point b other none (i ∷ []) r q h a e = no_integer b none i r q h.0 a e
no_point b other none (i ∷ (j ∷ is)) r q h a e = other (sym (head_same 40 b _ _ e))

-- ---- names and texts

letter_part : (c : ℕ) → is_letter c ≡ true → is_name_part c ≡ true
letter_part c t = ap (λ b. b || (nat_le 48 c && nat_le c 57) || (c == 95)) t

three : (a b d : Bool) → a && b && d ≡ true → (b ≡ true) × (d ≡ true)
three true true d e = (refl, e)
three true false d e = cc
three false b d e = cc

pub name_parts : (n : List ℕ) → is_name n ≡ true → list_all is_name_part n ≡ true
name_parts [] e = refl
name_parts (c ∷ cs) e =
    let t = three (nat_le (length cs) 31) (is_letter c) (list_all is_name_part cs) e in
    ap (λ b. b && list_all is_name_part cs) (letter_part c t.0) ∙ t.1

pub name_read : (m n r q : List ℕ) → list_all is_name_part m ≡ true → list_all is_name_part n ≡ true → m ++ (32 ∷ r) ≡ n ++ (32 ∷ q) → (m ≡ n) × (r ≡ q)
name_read = bytes_until is_name_part 32 refl

-- an index that may be written: coordinates of 64 bits, or plain bytes
abbrev pub IsWritten : Index → Type 0
IsWritten (Point is) = IsPoint is
IsWritten (Text t) = list_all is_plain t ≡ true

quoted : (t r : List ℕ) → (t ++ (34 ∷ [])) ++ r ≡ t ++ (34 ∷ r)
quoted t r = append_assoc t (34 ∷ []) r

pub index_read : IsRead EndsDigits IsWritten index_text
index_read (Point is) (Point js) r q h k a b e = let one = point_read is js r q h k a b e in (ap Point one.0, one.1)
index_read (Point is) (Text t) r q h k a b e = absurd (no_point 34 (λ x. omega (arith, x)) (λ x. refl) is r ((t ++ (34 ∷ [])) ++ q) h a e)
index_read (Text t) (Point is) r q h k a b e = absurd (no_point 34 (λ x. omega (arith, x)) (λ x. refl) is q ((t ++ (34 ∷ [])) ++ r) k b (sym e))
index_read (Text t) (Text u) r q h k a b e =
    let one = bytes_until is_plain 34 refl t u r q h k (sym (quoted t r) ∙ tail_same 34 34 _ _ e ∙ quoted u q) in
    (ap Text one.0, one.1)

no_index : IsNever EndsDigits IsWritten index_text 125
no_index (Point is) r q h a e = no_point 125 (λ x. omega (arith, x)) (λ x. refl) is r q h a e
no_index (Text t) r q h a e = omega (arith, head_same 34 125 ((t ++ (34 ∷ [])) ++ r) q e)

pub set_read : IsRead Any (Each IsWritten) set_text
set_read = enclosed_read EndsDigits IsWritten index_text (codes "{") 125 index_read (λ e. omega (arith, e)) (λ r. refl) (λ r. refl) no_index

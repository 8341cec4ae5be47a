-- Compact JSON has no line end in it.
use Rattle.std.proofs.Common.{◌≡◌, ◌≢◌, ◌==◌, ◌||◌, ℕ, zero, suc, ℤ, pos, negsuc, ◌+◌, ◌/◌, ◌%◌, Bool, true, false, nat_lt, List, [], ◌∷◌, cond, if◌then◌else◌}
use Rattle.std.proofs.Common.{refl, sym, subst, arith}
use Rattle.std.specs.Prelude.{flat_map}
use Rattle.std.specs.Char.{digit_char}
use Rattle.std.specs.Fmt.{digit_glyph, digits_onto, digits, decimal, signed_decimal}
use Rattle.std.proofs.lemmas.List.Concat.{flat_map-cons}
use Rattle.json.specs.Print.{escape_letter, escape_byte, escape, quoted}
use Rattle.serde_json.specs.Data.{Num, unsigned, negative, float, Data, null, boolean, number, string, array, object, Items, no_items, item, Members}
use Rattle.serde_json.specs.Data.{no_members, member}
use Rattle.serde_json.specs.Written.{number_text, comma_if, compact_text, items_text, members_text}
use Rattle.wb_lines.specs.Lines.{IsUnbroken}
use Rattle.wb_lines.proofs.Progress.{unbroken-append}

-- ---- digits

ne_if : (b : Bool) (m n : ℕ) → (b ≡ true → m ≢ 10) → n ≢ 10 → cond b m n ≢ 10
ne_if true m n x y = x refl
ne_if false m n x y = y

glyph : (d : ℕ) → digit_glyph false d ≢ 10
glyph d = ne_if (nat_lt d 10) (48 + d) (87 + d) (λ t e. omega (arith, e)) (λ e. omega (arith, e))

glyphs : (k n : ℕ) (acc : List ℕ) → IsUnbroken acc → IsUnbroken (digits_onto k 10 false n acc)
glyphs zero n acc u = u
glyphs (suc k) n acc u =
    elim (n / 10 == 0) as (λ b. IsUnbroken (if b then digit_glyph false (n % 10) ∷ acc else digits_onto k 10 false (n / 10)
    (digit_glyph false (n % 10) ∷ acc))) [
      | true ↦ (glyph (n % 10), u)
      | false ↦ glyphs k (n / 10) (digit_glyph false (n % 10) ∷ acc) (glyph (n % 10), u)
    ]

pub unbroken_decimal : (n : ℕ) → IsUnbroken (decimal n)
unfolding digits
unbroken_decimal n = glyphs 64 n [] tt

unbroken_signed : (z : ℤ) → IsUnbroken (signed_decimal z)
unbroken_signed (pos n) = unbroken_decimal n
unbroken_signed (negsuc n) = ((λ e. omega (arith, e)), unbroken_decimal (suc n))

-- ---- texts

is_letter : (x : ℕ) → ((x == 34) || (x == 92)) ≡ true → x ≢ 10
is_letter x h e = let f : ((10 == 34) || (10 == 92)) ≡ true = subst (λ y. ((y == 34) || (y == 92)) ≡ true) e h in cc

letter : (x : ℕ) → escape_letter x ≢ 10
letter x =
    let ne : (b : Bool) (m n : ℕ) → m ≢ 10 → n ≢ 10 → cond b m n ≢ 10 = λ b m n y z. ne_if b m n (λ t. y) z in
    ne_if ((x == 34) || (x == 92)) x _ (is_letter x)
    (ne (x == 8) 98 _ (λ e. omega (arith, e)) (ne (x == 12) 102 _ (λ e. omega (arith, e)) (ne (x == 10) 110 _ (λ e. omega (arith, e))
    (ne (x == 13) 114 _ (λ e. omega (arith, e)) (ne (x == 9) 116 0 (λ e. omega (arith, e)) (λ e. omega (arith, e)))))))

list_if : (b : Bool) (s t : List ℕ) → IsUnbroken s → (b ≡ false → IsUnbroken t) → IsUnbroken (cond b s t)
list_if true s t x y = x
list_if false s t x y = y refl

not_control : (x : ℕ) → nat_lt x 32 ≡ false → x ≢ 10
not_control x h e = let f : nat_lt 10 32 ≡ false = subst (λ y. nat_lt y 32 ≡ false) e h in cc

hex : (d : ℕ) → digit_char d ≢ 10
hex d = ne_if (nat_lt d 10) (48 + d) (87 + d) (λ t e. omega (arith, e)) (λ e. omega (arith, e))

escaped : (x : ℕ) → IsUnbroken (escape_byte x)
unfolding escape_byte
escaped x =
    list_if (nat_lt 0 (escape_letter x)) (92 ∷ escape_letter x ∷ []) _ ((λ e. omega (arith, e)), (letter x, tt))
    (λ t. list_if (nat_lt x 32) (92 ∷ 117 ∷ 48 ∷ 48 ∷ digit_char (x / 16) ∷ digit_char (x % 16) ∷ []) (x ∷ [])
    ((λ e. omega (arith, e)), ((λ e. omega (arith, e)), ((λ e. omega (arith, e)), ((λ e. omega (arith, e)), (hex (x / 16), (hex (x % 16), tt))))))
    (λ f. (not_control x f, tt)))

escaped_all : (s : List ℕ) → IsUnbroken (flat_map escape_byte s)
escaped_all [] = tt
escaped_all (x ∷ s) = subst IsUnbroken (sym (flat_map-cons escape_byte x s))
    (unbroken-append (escape_byte x) (flat_map escape_byte s) (escaped x) (escaped_all s))

unbroken_quoted : (s : List ℕ) → IsUnbroken (quoted s)
unbroken_quoted s = ((λ e. omega (arith, e)), unbroken-append (escape s) (34 ∷ []) (escaped_all s) ((λ e. omega (arith, e)), tt))

-- ---- values

unbroken_number : (n : Num) → IsUnbroken (number_text n)
unbroken_number (unsigned n) = unbroken_decimal n
unbroken_number (negative z) = unbroken_signed z
unbroken_number (float x) = tt

comma : (b : Bool) → IsUnbroken (comma_if b)
comma true = ((λ e. omega (arith, e)), tt)
comma false = tt

mutual
  pub unbroken_value : (d : Data) → IsUnbroken (compact_text d)
  unbroken_value null = ((λ e. omega (arith, e)), ((λ e. omega (arith, e)), ((λ e. omega (arith, e)), ((λ e. omega (arith, e)), tt))))
  unbroken_value (boolean true) = ((λ e. omega (arith, e)), ((λ e. omega (arith, e)), ((λ e. omega (arith, e)), ((λ e. omega (arith, e)), tt))))
  unbroken_value (boolean false) = (
    (λ e. omega (arith, e)),
    (
      (λ e. omega (arith, e)),
      ((λ e. omega (arith, e)), ((λ e. omega (arith, e)), ((λ e. omega (arith, e)), tt))),
    ),
  )
  unbroken_value (number n) = unbroken_number n
  unbroken_value (string s) = unbroken_quoted s
  unbroken_value (array ds) = ((λ e. omega (arith, e)), unbroken_items false ds)
  unbroken_value (object ms) = ((λ e. omega (arith, e)), unbroken_members false ms)

  unbroken_items : (later : Bool) (ds : Items) → IsUnbroken (items_text later ds)
  unbroken_items later no_items = ((λ e. omega (arith, e)), tt)
  unbroken_items later (item d ds) = unbroken-append (comma_if later) _ (comma later)
      (unbroken-append (compact_text d) _ (unbroken_value d) (unbroken_items true ds))

  unbroken_members : (later : Bool) (ms : Members) → IsUnbroken (members_text later ms)
  unbroken_members later no_members = ((λ e. omega (arith, e)), tt)
  unbroken_members later (member k d ms) =
      unbroken-append (comma_if later) _ (comma later)
      (unbroken-append (quoted k) _ (unbroken_quoted k) (
        (λ e. omega (arith, e)),
        unbroken-append (compact_text d) _ (unbroken_value d) (unbroken_members true ms),
      ))

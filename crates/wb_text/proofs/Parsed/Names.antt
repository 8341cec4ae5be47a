-- Names at the front of a text.
use Rattle.std.proofs.Common.{◌≡◌, ℕ, ◌<◌, ◌≤◌, Bool, true, false, ◌&&◌, ◌||◌, ◌==◌, nat_le, List, [], ◌∷◌, ◌++◌, length, drop, Some, None, option_map}
use Rattle.std.proofs.Common.{option_and_then, position, refl, sym, ap, ◌∙◌, eq-eqb, ne_eqb, eqb-true, lt-ltb, arith}
use Rattle.std.proofs.Math.Seq.{take-append_seam, drop-append_seam}
use Rattle.std.proofs.lemmas.Bool.{leb-true}
use Rattle.std.proofs.lemmas.List.{length-append}
use Rattle.std.proofs.lemmas.Str.{utf8_valid_len-IsUtf8, IsUtf8-from_ascii}
use Rattle.std.proofs.lemmas.Str.Ascii.{IsAscii-nil, IsAscii-cons}
use Rattle.std.specs.List.{list_all, position_or_len}
use Rattle.std.specs.Str.{IsUtf8, IsAscii}
use Rattle.wb_cells.specs.Names.{is_name, is_name_part, is_letter}
use Rattle.wb_text.proofs.Readable.{Each, both}
use Rattle.wb_text.proofs.ReadIndices.{name_parts}
use Rattle.wb_text.specs.Parsed.Parts.{is_space, is_named, name_of, name_up_to, name_at}

-- ---- bytes as a name

named_by : (bytes : List ℕ) → IsUtf8 bytes → is_named bytes ≡ is_name bytes
named_by bytes u = rw (eq-eqb _ _ (utf8_valid_len-IsUtf8 bytes u)) refl

pub name_yes : (bytes : List ℕ) → IsUtf8 bytes → is_name bytes ≡ true → name_of bytes ≡ Some bytes
name_yes bytes u h = rw (named_by bytes u ∙ h) refl

pub name_no : (bytes : List ℕ) → IsUtf8 bytes → is_name bytes ≡ false → name_of bytes ≡ None
name_no bytes u h = rw (named_by bytes u ∙ h) refl

-- ---- names are ASCII

above : (c n : ℕ) (b : Bool) → b ≡ nat_le c n → b ≡ true → c ≤ n
above c n b e t = leb-true c n (sym e ∙ t)

within : (c n : ℕ) → n ≤ 127 → (a b : Bool) → b ≡ nat_le c n → a && b ≡ true → c < 128
within c n few true b e t = let h = above c n b e t in omega (arith, h, few)
within c n few false b e t = cc

letter_ascii : (c : ℕ) (a b : Bool) → (a ≡ true → c < 128) → (b ≡ true → c < 128) → a || b ≡ true → c < 128
letter_ascii c true b f g e = f refl
letter_ascii c false b f g e = g e

one_of : (c : ℕ) (a b d : Bool) → (a ≡ true → c < 128) → (b ≡ true → c < 128) → (d ≡ true → c < 128) → a || b || d ≡ true → c < 128
one_of c true b d f g h e = f refl
one_of c false true d f g h e = g refl
one_of c false false d f g h e = h e

part_ascii : (c : ℕ) → is_name_part c ≡ true → c < 128
part_ascii c = one_of c (is_letter c) (nat_le 48 c && nat_le c 57) (c == 95)
    (letter_ascii c (nat_le 65 c && nat_le c 90) (nat_le 97 c && nat_le c 122) (within c 90 (omega arith) _ _ refl) (within c 122 (omega arith) _ _ refl))
    (within c 57 (omega arith) _ _ refl) (λ e. let h = eqb-true c 95 e in omega (arith, h))

parts_ascii : (n : List ℕ) → list_all is_name_part n ≡ true → IsAscii n
parts_ascii [] e = IsAscii-nil
parts_ascii (c ∷ cs) e = let p = both (is_name_part c) (list_all is_name_part cs) e in IsAscii-cons c cs (part_ascii c p.0) (parts_ascii cs p.1)

pub name_utf8 : (n : List ℕ) → is_name n ≡ true → IsUtf8 n
name_utf8 n e = IsUtf8-from_ascii n (parts_ascii n (name_parts n e))

-- ---- a name is read up to the space behind it

part_no_space : (c : ℕ) → is_name_part c ≡ true → is_space c ≡ false
part_no_space c e = ne_eqb c 32 (λ x. let h = ap is_name_part x in cc)

-- the first byte that passes is b, behind bytes of which none does
place_of : (p : ℕ → Bool) (n : List ℕ) (b : ℕ) (rest : List ℕ) → Each (λ c. p c ≡ false) n → p b ≡ true → position_or_len p (n ++ (b ∷ rest)) ≡ length n
place_of p [] b rest h t = rw t refl
place_of p (c ∷ cs) b rest h t = rw h.0 (let e = place_of p cs b rest h.1 t in omega (arith, e))

pub found_at : (p : ℕ → Bool) (n : List ℕ) (b : ℕ) (rest : List ℕ) → Each (λ c. p c ≡ false) n → p b ≡ true → position p (n ++ (b ∷ rest)) ≡ Some (length n)
found_at p n b rest h t =
    let l = length-append n (b ∷ rest) in
    rw (place_of p n b rest h t, lt-ltb (length n) (length (n ++ (b ∷ rest))) (omega (arith, l))) refl

pub none_of : (q p : ℕ → Bool) → ((c : ℕ) → q c ≡ true → p c ≡ false) → (n : List ℕ) → list_all q n ≡ true → Each (λ c. p c ≡ false) n
none_of q p f [] e = tt
none_of q p f (c ∷ cs) e = let b = both (q c) (list_all q cs) e in (f c b.0, none_of q p f cs b.1)

pub name_back : (n rest : List ℕ) → is_name n ≡ true → name_at (n ++ (32 ∷ rest)) ≡ Some (n, 32 ∷ rest)
name_back n rest e =
    ap (option_and_then (name_up_to (n ++ (32 ∷ rest)))) (found_at is_space n 32 rest (none_of is_name_part is_space part_no_space n (name_parts n e)) refl)
    ∙ ap (λ m. option_map (λ name. (name, drop (length n) (n ++ (32 ∷ rest)))) (name_of m)) (take-append_seam n (32 ∷ rest))
    ∙ ap (option_map (λ name. (name, drop (length n) (n ++ (32 ∷ rest))))) (name_yes n (name_utf8 n e) e)
    ∙ ap (λ m. Some (n, m)) (drop-append_seam n (32 ∷ rest))

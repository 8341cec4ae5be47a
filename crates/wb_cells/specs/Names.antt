-- Names of domains and arrays, as lists of bytes.
use Rattle.std.specs.Prelude.{◌≡◌, ℕ, Bool, true, false, ◌&&◌, ◌||◌, nat_le, ◌==◌, List, [], ◌∷◌, length}
use Rattle.std.specs.List.{list_all}
use Rattle.std.specs.Str.{IsUtf8}

-- an ASCII letter
abbrev pub is_letter : ℕ → Bool
is_letter c = (nat_le 65 c && nat_le c 90) || (nat_le 97 c && nat_le c 122)

-- a letter, a digit or `_`
abbrev pub is_name_part : ℕ → Bool
is_name_part c = is_letter c || (nat_le 48 c && nat_le c 57) || (c == 95)

-- 1 to 32 bytes: a letter, then letters, digits and `_`
abbrev pub is_name : List ℕ → Bool
is_name [] = false
is_name (c ∷ cs) = nat_le (length cs) 31 && is_letter c && list_all is_name_part cs

-- what is kept of the bytes of a name
pub record IsName (text : List ℕ) : Type 0 where
  pub utf8 : IsUtf8 text
  pub spelled : is_name text ≡ true

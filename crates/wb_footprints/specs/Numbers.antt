-- Which numbers are in a set, which is kept as words of 64 bits.
use Rattle.std.specs.Prelude.{◌≡◌, ℕ, ◌/◌, ◌%◌, ◌^◌, ◌<◌, ◌==◌, Bool, List, Some}
use Rattle.std.specs.BTreeMap.{is_at}
use Rattle.std.specs.Int.{bit_at}
use Rattle.std.specs.Map.{lookup}
use Rattle.std.specs.Option.{unwrap_or}
use Rattle.std.specs.Ordering.{nat_cmp}

-- a set as words by their places: the bits of the word at k are of the numbers from 64 k on
abbrev pub Numbers : Type 0
Numbers = List (ℕ × ℕ)

-- the word at a place, 0 where there is none
abbrev pub word_at : Numbers → ℕ → ℕ
word_at ws k = unwrap_or (lookup (is_at (nat_cmp k)) ws) 0

-- whether a bit of a word is set
abbrev pub in_word : ℕ → ℕ → Bool
in_word word at = bit_at word at == 1

-- whether a number is in the set
abbrev pub numbered : Numbers → ℕ → Bool
numbered ws n = in_word (word_at ws (n / 64)) (n % 64)

-- each word has a bit that is set, and its numbers have 64 bits
abbrev pub AreWhole : Numbers → Type 0
AreWhole ws = (k word : ℕ) → lookup (is_at (nat_cmp k)) ws ≡ Some word → (0 < word) × (k < 2 ^ 58)

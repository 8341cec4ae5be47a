-- Sets at the front of a text.
use Rattle.std.specs.Prelude.{ℕ, zero, suc, ◌+◌, ℤ, List, [], ◌∷◌, length, take, drop, codes, Bool, ◌&&◌, nat_eq, nat_le, if◌then◌else◌, Option, Some, None, option_map}
use Rattle.std.specs.Prelude.{option_and_then, position}
use Rattle.std.specs.Option.{option_map_or}
use Rattle.std.specs.Str.Lossy.{utf8_valid_len}
use Rattle.wb_sets.specs.Labels.{is_label}
use Rattle.wb_literals.specs.Tokens.{after, after_token, comma_at, close_at, whole}
use Rattle.wb_literals.specs.Integer.{integer_at}
use Rattle.wb_literals.specs.Index.{index_at}
use Rattle.wb_literals.specs.declared.index.IndexLiteral.{IndexLiteral}
use Rattle.wb_literals.specs.declared.index.IndexLiteral.TheVariants.{Integer, Pair, Triple}

-- What a set lists, in the order of its text: indices of one rank, or texts. The empty set has no type.
pub data Items : Type 0 where
  nothing : Items
  integers : List ℤ → Items
  pairs : List (List ℤ) → Items
  triples : List (List ℤ) → Items
  texts : List (List ℕ) → Items

-- one or more items, at most n, separated by commas
abbrev pub items_at : {X : Type 0} → (List ℕ → Option (X × List ℕ)) → ℕ → List ℕ → Option (List X × List ℕ)
items_at item_at zero bytes = None
items_at item_at (suc n) bytes = option_and_then (λ x. option_map_or (λ rest. option_map (λ more. (x.0 ∷ more.0, more.1)) (items_at item_at n rest))
    (comma_at x.1) (Some (x.0 ∷ [], x.1))) (item_at bytes)

-- one or more items and the closing brace; a text has no more items than bytes
abbrev pub listed_at : {X : Type 0} → (List ℕ → Option (X × List ℕ)) → List ℕ → Option (List X × List ℕ)
listed_at item_at bytes = option_and_then (λ x. option_map (λ rest. (x.0, rest)) (close_at (codes "}") x.1)) (items_at item_at (length bytes) bytes)

abbrev pub as_pair : IndexLiteral → Option (List ℤ)
as_pair (Integer i) = None
as_pair (Pair i j) = Some (i ∷ j ∷ [])
as_pair (Triple i j k) = None

abbrev pub pair_at : List ℕ → Option (List ℤ × List ℕ)
pair_at bytes = option_and_then (λ x. option_map (λ p. (p, x.1)) (as_pair x.0)) (index_at bytes)

abbrev pub as_triple : IndexLiteral → Option (List ℤ)
as_triple (Integer i) = None
as_triple (Pair i j) = None
as_triple (Triple i j k) = Some (i ∷ j ∷ k ∷ [])

abbrev pub triple_at : List ℕ → Option (List ℤ × List ℕ)
triple_at bytes = option_and_then (λ x. option_map (λ p. (p, x.1)) (as_triple x.0)) (index_at bytes)

-- UTF-8 that is a label
abbrev pub is_text : List ℕ → Bool
is_text bytes = nat_eq (utf8_valid_len bytes) (length bytes) && is_label bytes

abbrev pub label_of : List ℕ → Option (List ℕ)
label_of bytes = if is_text bytes then Some bytes else None

abbrev pub is_quote : ℕ → Bool
is_quote b = nat_eq b 34

-- the text that ends at this place, and what follows the quote there
abbrev pub quoted_at : List ℕ → ℕ → Option (List ℕ × List ℕ)
quoted_at bytes n = option_map (λ t. (t, drop (n + 1) bytes)) (label_of (take n bytes))

-- a text in quotes
abbrev pub text_at : List ℕ → Option (List ℕ × List ℕ)
text_at bytes = option_and_then (λ inside. option_and_then (quoted_at inside) (position is_quote inside)) (after (codes "\"") bytes)

-- a text of at most 23 bytes
abbrev pub short_of : List ℕ → Option (List ℕ)
short_of text = if nat_le (length text) 23 then Some text else None

-- a short text in quotes
abbrev pub short_text_at : List ℕ → Option (List ℕ × List ℕ)
short_text_at bytes = option_and_then (λ x. option_map (λ t. (t, x.1)) (short_of x.0)) (text_at bytes)

-- indices like the first one
abbrev pub indices_at : IndexLiteral → List ℕ → Option (Items × List ℕ)
indices_at (Integer i) bytes = option_map (λ x. (integers x.0, x.1)) (listed_at integer_at bytes)
indices_at (Pair i j) bytes = option_map (λ x. (pairs x.0, x.1)) (listed_at pair_at bytes)
indices_at (Triple i j k) bytes = option_map (λ x. (triples x.0, x.1)) (listed_at triple_at bytes)

-- texts of at most 23 bytes each
abbrev pub short_texts_at : List ℕ → Option (Items × List ℕ)
short_texts_at bytes = option_map (λ x. (texts x.0, x.1)) (listed_at short_text_at bytes)

abbrev pub texts_at : List ℕ → Option (Items × List ℕ)
texts_at bytes = option_map (λ x. (texts x.0, x.1)) (listed_at text_at bytes)

abbrev pub filled_at : List ℕ → Option (Items × List ℕ)
filled_at bytes = option_map_or (λ _. texts_at bytes) (after (codes "\"") bytes) (option_and_then (λ first. indices_at first.0 bytes) (index_at bytes))

-- any number of items in braces
abbrev pub set_at : List ℕ → Option (Items × List ℕ)
set_at bytes = option_and_then (λ inside. option_map_or (λ rest. Some (nothing, rest)) (after (codes "}") inside) (filled_at inside))
    (after_token (codes "{") bytes)

abbrev pub set_literal_of : List ℕ → Option Items
set_literal_of text = whole set_at text

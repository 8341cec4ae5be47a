-- Tokens at the front of a text, and the spaces between them.
use Rattle.std.specs.Prelude.{ℕ, List, [], ◌∷◌, length, drop, codes, Option, Some, None, option_map, option_and_then, nat_eq, if◌then◌else◌}
use Rattle.std.specs.List.{starts_with}

-- what follows the spaces
abbrev pub skip_spaces : List ℕ → List ℕ
skip_spaces [] = []
skip_spaces (b ∷ bytes) = if nat_eq b 32 then skip_spaces bytes else b ∷ bytes

-- what follows these bytes
abbrev pub after : List ℕ → List ℕ → Option (List ℕ)
after front bytes = if starts_with nat_eq bytes front then Some (drop (length front) bytes) else None

-- what follows a token, and spaces
abbrev pub after_token : List ℕ → List ℕ → Option (List ℕ)
after_token token bytes = option_map skip_spaces (after token bytes)

-- what follows a word, which has a space on each side
abbrev pub after_word : List ℕ → List ℕ → Option (List ℕ)
after_word word bytes = option_and_then (λ spaced. option_and_then (λ rest. after_token (codes " ") rest) (after word spaced)) (after_token (codes " ") bytes)

-- what follows spaces, a comma and spaces
abbrev pub comma_at : List ℕ → Option (List ℕ)
comma_at bytes = after_token (codes ",") (skip_spaces bytes)

-- what follows spaces and a closing token
abbrev pub close_at : List ℕ → List ℕ → Option (List ℕ)
close_at token bytes = after token (skip_spaces bytes)

-- the value that all of the text spells
abbrev pub whole : {X : Type 0} → (List ℕ → Option (X × List ℕ)) → List ℕ → Option X
whole at text = option_and_then (λ x. if nat_eq (length x.1) 0 then Some x.0 else None) (at text)

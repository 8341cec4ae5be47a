-- The parts of a line at the front of a text: what was read, and what follows it.
use Rattle.std.specs.Prelude.{ℕ, ℤ, List, length, take, drop, codes, nat_eq, Bool, ◌&&◌, Option, Some, None, option_map, option_and_then, position}
use Rattle.std.specs.Prelude.{if◌then◌else◌}
use Rattle.std.specs.Option.{option_map_or}
use Rattle.std.specs.Result.{result_ok}
use Rattle.std.specs.Str.Lossy.{utf8_valid_len}
use Rattle.wb_dist.specs.Maps.{LayoutMap}
use Rattle.wb_cells.specs.declared.cells.kind.KeyType.{KeyType}
use Rattle.wb_cells.specs.declared.cells.kind.KeyType.TheVariants.{Int, Text}
use Rattle.wb_cells.specs.declared.values.index.Index.{Index}
use Rattle.wb_cells.specs.Cells.{Name}
use Rattle.wb_cells.specs.Names.{is_name}
use Rattle.wb_cells.specs.Shapes.{Range}
use Rattle.wb_literals.specs.Integer.{integer_at}
use Rattle.wb_literals.specs.Integers.{integers_at}
use Rattle.wb_literals.specs.Mapping.{mapping_at}
use Rattle.wb_literals.specs.Rectangle.{rectangle_at}
use Rattle.wb_literals.specs.Set.{set_at}
use Rattle.wb_literals.specs.Tokens.{after}
use Rattle.wb_literals.specs.Limits.Literals.{domain_within, listed_in}
use Rattle.wb_literals.specs.Limits.Mappings.{mapping_within}

-- "by o, get x, and go on", where there is one
infixr 10 ◌>>=◌
abbrev pub ◌>>=◌ : {X Y : Type 0} → Option X → (X → Option Y) → Option Y
o >>= next = option_and_then next o

-- ---- names

abbrev pub is_space : ℕ → Bool
is_space b = nat_eq b 32

-- UTF-8 that is a name
abbrev pub is_named : List ℕ → Bool
is_named bytes = nat_eq (utf8_valid_len bytes) (length bytes) && is_name bytes

-- the bytes, if they are a name
abbrev pub name_of : List ℕ → Option Name
name_of bytes = if is_named bytes then Some bytes else None

-- the name that ends at this place
abbrev pub name_up_to : List ℕ → ℕ → Option (Name × List ℕ)
name_up_to bytes n = option_map (λ name. (name, drop n bytes)) (name_of (take n bytes))

-- a name up to the first space, which follows it
abbrev pub name_at : List ℕ → Option (Name × List ℕ)
name_at bytes = option_and_then (name_up_to bytes) (position is_space bytes)

-- a name, a word and a further name
abbrev pub names_at : (word : List ℕ) → List ℕ → Option (Name × Name × List ℕ)
names_at word bytes = do
  first ← name_at bytes
  rest ← after word first.1
  second ← name_at rest
  Some (first.0, second.0, second.1)

-- a type of indices
abbrev pub type_at : List ℕ → Option (KeyType × List ℕ)
type_at bytes = option_map_or (λ rest. Some (Int, rest)) (after (codes "int") bytes) (option_map (λ rest. (Text, rest)) (after (codes "text") bytes))

-- a name and a type of indices
abbrev pub typed_at : List ℕ → Option (Name × KeyType × List ℕ)
typed_at bytes = do
  name ← name_at bytes
  rest ← after (codes " of ") name.1
  type ← type_at rest
  Some (name.0, type.0, type.1)

-- ---- literals behind a space, and what they stand for within all limits

-- the ranges of a rectangle
abbrev pub ranges_at : List ℕ → Option (List Range × List ℕ)
ranges_at bytes = do
  literal ← after (codes " ") bytes
  rectangle ← rectangle_at literal
  ranges ← result_ok (domain_within rectangle.0)
  Some (ranges, rectangle.1)

-- a mapping
abbrev pub layout_at : List ℕ → Option (LayoutMap × List ℕ)
layout_at bytes = do
  literal ← after (codes " ") bytes
  mapping ← mapping_at literal
  layout ← result_ok (mapping_within mapping.0)
  Some (layout, mapping.1)

-- the indices of a set, and the end of the line
abbrev pub members_at : List ℕ → Option (List Index × List ℕ)
members_at bytes = do
  literal ← after (codes " ") bytes
  set ← set_at literal
  rest ← after (codes "\n") set.1
  Some (listed_in set.0, rest)

-- integers in brackets
abbrev pub elements_at : List ℕ → Option (List ℤ × List ℕ)
elements_at bytes = option_and_then integers_at (after (codes " ") bytes)

-- an integer, and the end of the line
abbrev pub last_integer_at : List ℕ → Option (Option ℤ × List ℕ)
last_integer_at bytes = do
  value ← integer_at bytes
  rest ← after (codes "\n") value.1
  Some (Some value.0, rest)

-- an implicit value, where one is written, and the end of the line
abbrev pub implicit_at : List ℕ → Option (Option ℤ × List ℕ)
implicit_at bytes = option_map_or last_integer_at (after (codes " irv ") bytes) (option_map (λ rest. (None, rest)) (after (codes "\n") bytes))

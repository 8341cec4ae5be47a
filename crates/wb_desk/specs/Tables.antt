-- How a table of names grows, and what room there is.
use Rattle.std.specs.Prelude.{◌≡◌, ℕ, ◌<◌, List, length, take, vec_len, vec_capacity}
use Rattle.wb_cells.specs.Cells.{Name}
use Rattle.wb_desk.specs.declared.register.Register.{Register}
use Rattle.wb_desk.specs.Records.{name_at}

-- The second list begins with the first one.
abbrev pub IsFront : List Name → List Name → Type 0
IsFront before names = take (length before) names ≡ before

-- This name stands at a place of a table.
pub record IsNamed (names : List Name) (place : ℕ) (a : Name) : Type 0 where
  pub within : place < length names
  pub name : name_at names place ≡ a

-- There is room for one form more.
abbrev pub IsRoomy : Register → Type 0
IsRoomy r = vec_len r.forms < vec_capacity r.forms

-- The second register has the seat, the names and the forms of the first one.
pub record IsFilled (r s : Register) : Type 0 where
  pub seat : s.seat ≡ r.seat
  pub names : s.names ≡ r.names
  pub forms : s.forms.items ≡ r.forms.items

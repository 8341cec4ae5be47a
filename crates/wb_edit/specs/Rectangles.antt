-- Tests on the rectangle that a command is asked for, and on its indices: whether an array may have them, and whether its
-- elements at all of them are there.
use Rattle.std.specs.Prelude.{ℕ, ℤ, ◌==◌, Bool, true, false, List, [], ◌∷◌, map, Option, is_some, Result, Ok, Err}
use Rattle.std.specs.List.{list_all}
use Rattle.wb_cells.specs.declared.cells.cell.Cell.{Cell}
use Rattle.wb_cells.specs.declared.cells.cell.Cell.TheVariants.{Element}
use Rattle.wb_cells.specs.declared.cells.kind.Kind.{Kind}
use Rattle.wb_cells.specs.declared.cells.kind.Kind.TheVariants.{Rectangular, Sparse, Associative}
use Rattle.wb_cells.specs.declared.cells.value.Value.{Value}
use Rattle.wb_cells.specs.declared.values.index.Index.{Index}
use Rattle.wb_cells.specs.Cells.{Name}
use Rattle.wb_cells.specs.Shapes.{Range}
use Rattle.wb_edit.specs.declared.asked_numbers.AskedNumbers.{AskedNumbers}
use Rattle.wb_edit.specs.declared.asked_numbers.AskedNumbers.TheVariants.{Rectangle as numbered, Indices as set_numbered}
use Rattle.wb_edit.specs.declared.asked_rectangle.AskedRectangle.{AskedRectangle}
use Rattle.wb_edit.specs.declared.asked_rectangle.AskedRectangle.TheVariants.{Ranges, Indices}
use Rattle.wb_cells.specs.declared.refusal.WhyRefused.{WhyRefused}
use Rattle.wb_cells.specs.declared.refusal.WhyRefused.TheVariants.{WrongKind, OutOfDomain}
use Rattle.wb_edit.specs.Trees.{Look, ◌>>=◌, read, judged}

-- ---- judgements

-- the ranges of the rectangle that is asked for; a set in its place is of the wrong kind
abbrev pub ranges_of : AskedRectangle → Result (List Range) WhyRefused
ranges_of (Ranges rs) = Ok rs
ranges_of Indices = Err WrongKind

-- the ranges and the numbers that are asked for; a set in the place of the rectangle is of the wrong kind
abbrev pub numbers_of : AskedNumbers → Result (List Range × List ℤ) WhyRefused
numbers_of (numbered r) = Ok r
numbers_of set_numbered = Err WrongKind

abbrev pub is_rectangular_of : ℕ → Kind → Bool
is_rectangular_of rank (Rectangular r) = r == rank
is_rectangular_of rank (Sparse r) = false
is_rectangular_of rank (Associative type) = false

-- the array is over a rectangular domain of the rank; else it is of the wrong kind
abbrev pub of_rank : ℕ → Kind → Result (Unit {0}) WhyRefused
of_rank rank kind = elim (is_rectangular_of rank kind) [ true ↦ Ok tt | false ↦ Err WrongKind ]

-- all of them are there; else an index is outside
abbrev pub there_if : Bool → Result (Unit {0}) WhyRefused
there_if true = Ok tt
there_if false = Err OutOfDomain

abbrev pub all_there : List (Option Value) → Result (Unit {0}) WhyRefused
all_there vs = there_if (list_all is_some vs)

-- ---- the looks

-- what each of some cells holds: all are looked at, one after another
abbrev pub read_all : List Cell → Look (List (Option Value))
read_all [] next = next []
read_all (c ∷ cs) next = do
  v ← read c
  vs ← read_all cs
  next (v ∷ vs)

-- the ranges of the rectangle that is asked for: looks at nothing
abbrev pub asked_ranges : AskedRectangle → Look (List Range)
asked_ranges asked = judged (ranges_of asked)

-- the ranges and the numbers that are asked for: looks at nothing
abbrev pub asked_numbers : AskedNumbers → Look (List Range × List ℤ)
asked_numbers asked = judged (numbers_of asked)

-- an array over a rectangular domain of the rank: looks at nothing
abbrev pub over_rectangle : ℕ → Kind → Look (Unit {0})
over_rectangle rank kind = judged (of_rank rank kind)

-- an array's elements at some indices: looks at all of them before it judges
abbrev pub all_elements : Name → List Index → Look (Unit {0})
all_elements a is next = do
  vs ← read_all (map (Element a) is)
  judged (all_there vs) next

-- Kinds of domains, and which indices they may have.
use Rattle.std.specs.Prelude.{ℕ, ◌==◌, nat_le, Bool, true, false, length, FitsSigned}
use Rattle.std.specs.Int.{w64}
use Rattle.std.specs.List.{All}
use Rattle.wb_sets.specs.Labels.{IsLabel}
use Rattle.wb_cells.specs.declared.cells.kind.DomainKind.{DomainKind}
use Rattle.wb_cells.specs.declared.cells.kind.DomainKind.TheVariants.{Rectangular, Sparse, Associative}
use Rattle.wb_cells.specs.declared.cells.kind.KeyType.TheVariants.{Int, Text}
use Rattle.wb_cells.specs.declared.cells.kind.Kind.{Kind}
use Rattle.wb_cells.specs.declared.cells.kind.Kind.TheVariants.{Rectangular, Sparse, Associative}
use Rattle.wb_cells.specs.declared.values.index.Index.{Index}
use Rattle.wb_cells.specs.declared.values.index.Index.TheVariants.{Point, Text}

-- what an array over such a domain knows of it
abbrev pub kind_of : DomainKind → Kind
kind_of (Rectangular rank) = Rectangular rank
kind_of (Sparse parent rank) = Sparse rank
kind_of (Associative type) = Associative type

-- a point with so many coordinates
abbrev pub is_point : ℕ → Index → Bool
is_point rank (Point is) = length is == rank
is_point rank (Text t) = false

abbrev pub is_text : Index → Bool
is_text (Point is) = false
is_text (Text t) = true

-- a text of at most 23 bytes
abbrev pub is_short_text : Index → Bool
is_short_text (Point is) = false
is_short_text (Text t) = nat_le (length t) 23

-- the indices of a rectangular or sparse domain have as many coordinates as it has dimensions; those of an associative one
-- are integers or texts, by its type (Chapel Language Specification, Domains)
abbrev pub is_key : Kind → Index → Bool
is_key (Rectangular rank) i = is_point rank i
is_key (Sparse rank) i = is_point rank i
is_key (Associative Int) i = is_point 1 i
is_key (Associative Text) i = is_text i

-- what an index is made of: integers of 64 bits, or the text of a label
abbrev pub IsIndex : Index → Type 0
IsIndex (Point is) = All (FitsSigned w64) is
IsIndex (Text t) = IsLabel t

-- Tests on kinds of domains. They look at nothing: what a domain is was seen with its object.
use Rattle.std.specs.Prelude.{ℕ, Result, Ok, Err}
use Rattle.wb_cells.specs.declared.cells.kind.DomainKind.{DomainKind}
use Rattle.wb_cells.specs.declared.cells.kind.DomainKind.TheVariants.{Rectangular, Sparse, Associative}
use Rattle.wb_cells.specs.declared.cells.kind.Kind.{Kind}
use Rattle.wb_cells.specs.declared.cells.kind.Kind.TheVariants.{Rectangular, Sparse, Associative}
use Rattle.wb_cells.specs.declared.refusal.WhyRefused.{WhyRefused}
use Rattle.wb_cells.specs.declared.refusal.WhyRefused.TheVariants.{WrongKind}
use Rattle.wb_edit.specs.Trees.{Look, judged}

-- the rank of a rectangular domain; another one is of the wrong kind
abbrev pub rank_of : DomainKind → Result ℕ WhyRefused
rank_of (Rectangular rank) = Ok rank
rank_of (Sparse parent rank) = Err WrongKind
rank_of (Associative type) = Err WrongKind

-- an array over a sparse domain; another one is of the wrong kind
abbrev pub is_sparse : Kind → Result (Unit {0}) WhyRefused
is_sparse (Rectangular rank) = Err WrongKind
is_sparse (Sparse rank) = Ok tt
is_sparse (Associative type) = Err WrongKind

-- ---- the looks

-- a rectangular domain: its rank
abbrev pub rectangular : DomainKind → Look ℕ
rectangular kind = judged (rank_of kind)

-- an array over a sparse domain
abbrev pub over_sparse : Kind → Look (Unit {0})
over_sparse kind = judged (is_sparse kind)

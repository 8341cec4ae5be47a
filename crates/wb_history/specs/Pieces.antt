-- The piece of an array on a locale: its elements at the indices that lie there (Chapel Language Specification, Domain
-- Maps).
use Rattle.std.specs.Prelude.{◌≡◌, Bool, ℕ, ◌==◌, nat_lt, ℤ, List, filter, Result, Ok, Err, ⊤, unwrap_or, if◌then◌else◌}
use Rattle.std.specs.FinMap.{get}
use Rattle.wb_cells.specs.declared.cells.cell.Cell.TheVariants.{Object}
use Rattle.wb_cells.specs.declared.cells.kind.DomainKind.{DomainKind}
use Rattle.wb_cells.specs.declared.cells.kind.DomainKind.TheVariants.{Rectangular, Sparse, Associative}
use Rattle.wb_cells.specs.declared.cells.kind.Kind.{Kind}
use Rattle.wb_cells.specs.declared.values.index.Index.{Index}
use Rattle.wb_cells.specs.Cells.{Name, Cells}
use Rattle.wb_cells.specs.Locales.{locale_by, locale_count_at}
use Rattle.wb_cells.specs.Readers.{elements}
use Rattle.wb_cells.specs.declared.refusal.WhyRefused as why
use Rattle.wb_cells.specs.declared.refusal.WhyRefused.TheVariants.{OutOfDomain}
use Rattle.wb_edit.specs.Looks.{domain_kind, array_kind}
use Rattle.wb_history.specs.declared.query.Answer.{Answer}
use Rattle.wb_history.specs.declared.query.Answer.TheVariants.{Piece}
use Rattle.wb_edit.specs.declared.refusal.Refusal.{Refusal}
use Rattle.wb_edit.specs.declared.refusal.Refusal.TheVariants.{Refused, NoMemory}
use Rattle.wb_edit.specs.Trees.{plain}

-- the domain by whose mapping the indices of d lie: a sparse domain has none of its own, and goes by its parent's
abbrev pub mapped_by : (d : Name) → DomainKind → Name
mapped_by d (Rectangular rank) = d
mapped_by d (Sparse parent rank) = parent
mapped_by d (Associative type) = d

-- the domain by whose mapping the indices of d lie, by what d is
abbrev pub mapped_as : (d : Name) → Result DomainKind why.WhyRefused → Name
mapped_as d (Ok kind) = mapped_by d kind
mapped_as d (Err e) = d

abbrev pub mapped_at : Cells → (d : Name) → Name
mapped_at s d = mapped_as d (domain_kind (get s (Object d)))

-- how many locales there are by the mapping of the domain e, and 1 where that has none
abbrev pub locales_of : Cells → (e : Name) → ℕ
locales_of s e = unwrap_or (locale_count_at s e) 1

-- an element after its index lies on locale l by the mapping of the domain e: on 0 where that has none
abbrev pub lies_on : Cells → (e : Name) → (l : ℕ) → Index × ℤ → Bool
lies_on s e l x = unwrap_or (locale_by s e x.0) 0 == l

-- the elements of the array a on locale l, each after its index, ascending by index
abbrev pub piece_on : Cells → (a e : Name) → (l : ℕ) → List (Index × ℤ)
piece_on s a e l = filter (lies_on s e l) (elements s a)

-- the elements of the array a on locale l, where there is such a locale; they are numbered from 0
abbrev pub piece_by : Cells → (a e : Name) → (l : ℕ) → Result (List (Index × ℤ)) why.WhyRefused
piece_by s a e l = if nat_lt l (locales_of s e) then Ok (piece_on s a e l) else Err OutOfDomain

abbrev pub piece_from : Cells → (a : Name) → (l : ℕ) → Result (Name × Kind) why.WhyRefused → Result (List (Index × ℤ)) why.WhyRefused
piece_from s a l (Ok (d, kind)) = piece_by s a (mapped_at s d) l
piece_from s a l (Err e) = Err e

-- the name is an array's, and the mapping of its domain has the locale
abbrev pub piece_of : Cells → (a : Name) → (l : ℕ) → Result (List (Index × ℤ)) why.WhyRefused
piece_of s a l = piece_from s a l (array_kind (get s (Object a)))

abbrev pub piece_answer : Result (List (Index × ℤ)) why.WhyRefused → Result Answer Refusal
piece_answer (Ok xs) = Ok (Piece xs)
piece_answer (Err e) = Err (Refused (plain e))

-- What is to be answered, but that memory may run out.
abbrev pub OrNoMemory : (due found : Result Answer Refusal) → Type 0
OrNoMemory due (Ok a) = due ≡ Ok a
OrNoMemory due (Err NoMemory) = ⊤
OrNoMemory due (Err why) = due ≡ Err why

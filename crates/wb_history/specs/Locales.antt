-- On which locale an index of a domain lies, or why it lies on none (Chapel Language Specification, Domain Maps).
use Rattle.std.specs.Prelude.{ℕ, Result, Ok, Err, unwrap_or}
use Rattle.std.specs.FinMap.{get}
use Rattle.wb_cells.specs.declared.cells.cell.Cell.TheVariants.{Object}
use Rattle.wb_cells.specs.declared.cells.kind.DomainKind.{DomainKind}
use Rattle.wb_cells.specs.declared.values.index.Index.{Index}
use Rattle.wb_cells.specs.Cells.{Name, Cells}
use Rattle.wb_cells.specs.Kinds.{kind_of}
use Rattle.wb_cells.specs.Locales.{locale_at}
use Rattle.wb_cells.specs.WellFormed.{index_cell}
use Rattle.wb_cells.specs.declared.refusal.WhyRefused as why
use Rattle.wb_edit.specs.Looks.{domain_kind, fits, is_there}
use Rattle.wb_history.specs.declared.query.Answer.{Answer}
use Rattle.wb_history.specs.declared.query.Answer.TheVariants.{Locale}
use Rattle.wb_edit.specs.declared.refusal.Refusal.{Refusal}
use Rattle.wb_edit.specs.declared.refusal.Refusal.TheVariants.{Refused}
use Rattle.wb_edit.specs.Trees.{plain}

-- the locale of an index that is there
abbrev pub locale_found : Cells → Name → Index → Result (Unit {0}) why.WhyRefused → Result ℕ why.WhyRefused
locale_found s d i (Ok there) = Ok (unwrap_or (locale_at s d i) 0)
locale_found s d i (Err why) = Err why

-- an index of the type and rank of the domain's
abbrev pub locale_fitting : Cells → Name → DomainKind → Index → Result (Unit {0}) why.WhyRefused → Result ℕ why.WhyRefused
locale_fitting s d kind i (Ok fit) = locale_found s d i (is_there (get s (index_cell (kind_of kind) d i)))
locale_fitting s d kind i (Err e) = Err e

abbrev pub locale_from : Cells → Name → Index → Result DomainKind why.WhyRefused → Result ℕ why.WhyRefused
locale_from s d i (Ok kind) = locale_fitting s d kind i (fits (kind_of kind) i)
locale_from s d i (Err e) = Err e

-- the name is a domain's, the index fits and is one of the domain, and there it lies
abbrev pub where_answer : Cells → Name → Index → Result ℕ why.WhyRefused
where_answer s d i = locale_from s d i (domain_kind (get s (Object d)))

abbrev pub locale_answer : Result ℕ why.WhyRefused → Result Answer Refusal
locale_answer (Ok l) = Ok (Locale l)
locale_answer (Err e) = Err (Refused (plain e))

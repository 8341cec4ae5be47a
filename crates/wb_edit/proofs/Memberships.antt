-- Whether a sparse or associative domain has an index: the tests with which its changes begin.
use Rattle.std.proofs.Common.{◌≡◌, List, Option, Result, Ok}
use Rattle.wb_cells.specs.declared.cells.cell.Cell.TheVariants.{Member}
use Rattle.wb_cells.specs.declared.cells.kind.DomainKind.{DomainKind}
use Rattle.wb_cells.specs.declared.cells.pattern.Pattern.{Pattern}
use Rattle.wb_cells.specs.declared.cells.value.Value.{Value}
use Rattle.wb_cells.specs.declared.values.index.Index.{Index}
use Rattle.wb_cells.specs.Cells.{Name, Cells, Changes}
use Rattle.wb_cells.specs.Kinds.{kind_of}
use Rattle.wb_edit.specs.declared.attempt_err.AttemptErr.{AttemptErr}
use Rattle.wb_edit.specs.Trees.{Tree, read}
use Rattle.wb_edit.specs.Plans.{Attempts, Gives, or_refused}
use Rattle.wb_edit.specs.Resizing.{has_members, with_members}
use Rattle.wb_edit.specs.Looks.{domain_named, fits, index_fits}
use Rattle.wb_edit.proofs.Attempts.{goes_on, passes}

module _ (s : Cells) (d : Name) (i : Index) (next : Option Value → DomainKind → Tree) where
  abbrev pub after_fits : DomainKind → Tree
  after_fits kind = read (Member d i) (λ there. next there kind)

  abbrev pub after_kind : DomainKind → Tree
  after_kind kind = with_members kind (λ x. index_fits (kind_of kind) i (λ y. after_fits kind))

  -- where the domain is there and may have the index, it is seen whether it has it
  pub reaches : (rs ss us : List Pattern) (kind : DomainKind) (r : Result Changes AttemptErr) → Gives (domain_named d) s rs kind ss →
      or_refused (has_members kind) ≡ Ok tt → or_refused (fits (kind_of kind) i) ≡ Ok tt → Attempts (after_fits kind) s ss r us
      → Attempts (domain_named d after_kind) s rs r us
  reaches rs ss us kind r found set fitting rest =
      goes_on (domain_named d) s rs ss after_kind kind r us found (
      goes_on (with_members kind) s ss ss (λ x. index_fits (kind_of kind) i (λ y. after_fits kind)) tt r us (passes s ss (has_members kind) tt set) (
      goes_on (index_fits (kind_of kind) i) s ss ss (λ y. after_fits kind) tt r us (passes s ss (fits (kind_of kind) i) tt fitting) rest))

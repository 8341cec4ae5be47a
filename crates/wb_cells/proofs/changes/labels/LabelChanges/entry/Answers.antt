use Rattle.std.proofs.Common.{ℕ, List, sym, subst}
use Rattle.std.specs.List.{All}
use Rattle.wb_cells.specs.declared.changes.labels.LabelEntry.{LabelEntry}
use Rattle.wb_cells.specs.Labelled.{IsKept}
use Rattle.wb_cells.proofs.changes.labels.LabelChanges.entry.Goals as goal

pub entry_at-requires-clause-kept : goal.entry_at-requires-clause-kept
entry_at-requires-clause-kept c =
    subst (λ (xs : List LabelEntry). All (IsKept c.as_slice.result.now) xs) (sym c.as_slice-2.ensures.value)
    (subst (λ (bs : List ℕ). All (IsKept bs) c.self.inside.entries.items) (sym c.as_slice.ensures.value) c.self.invariant)

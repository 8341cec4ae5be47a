use Rattle.std.proofs.Common.{◌≡◌, Bool, take}
use Rattle.std.specs.List.{list_any}
use Rattle.wb_cells.specs.declared.values.index.Index.{Index}
use Rattle.wb_cells.specs.declared.values.index.Index.TheVariants.{Text}
use Rattle.wb_footprints.specs.Swept.{FailsBehind}
use Rattle.wb_footprints.proofs.questions.swept.SweptCells.new_labels.Given as goal

abbrev pub invariant-loop-at : goal.invariant-loop-at
invariant-loop-at l = (f : Index → Bool) → FailsBehind l.self l.row f →
    list_any (λ t. f (Text t)) l.list ≡ list_any (λ t. f (Text t)) (take l.at l.all)

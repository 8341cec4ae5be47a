use Rattle.std.proofs.Common.{◌≡◌, true, take}
use Rattle.std.specs.List.{list_all}
use Rattle.wb_cells.specs.declared.cells.kind.Kind.TheVariants.{Associative}
use Rattle.wb_cells.specs.Kinds.{is_key}
use Rattle.wb_literals.specs.Said.{items}
use Rattle.wb_literals.specs.Limits.Literals.{listed_in}
use Rattle.wb_text.proofs.workbook.told.are_keys.Given as goal

abbrev pub invariant-loop-place : goal.invariant-loop-place
invariant-loop-place l = (l.kind ≡ Associative l.fn.key) × (list_all (is_key (Associative l.fn.key)) (take l.place (listed_in (items l.set))) ≡ true)

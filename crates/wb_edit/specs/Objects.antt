-- Whether a workbook has objects.
use Rattle.std.specs.Prelude.{List, [], ◌∷◌, Result, Ok, Err}
use Rattle.selective_undo.specs.Edit.{look}
use Rattle.wb_cells.specs.declared.cells.cell.Cell.{Cell}
use Rattle.wb_cells.specs.declared.cells.pattern.Pattern.TheVariants.{Objects}
use Rattle.wb_cells.specs.declared.cells.value.Value.{Value}
use Rattle.wb_cells.specs.declared.refusal.WhyRefused.{WhyRefused}
use Rattle.wb_cells.specs.declared.refusal.WhyRefused.TheVariants.{NotEmpty}
use Rattle.wb_edit.specs.Trees.{Look, judged}

-- nothing was seen; else the workbook is not empty
abbrev pub is_empty : List (Cell × Value) → Result (Unit {0}) WhyRefused
is_empty [] = Ok tt
is_empty (x ∷ xs) = Err NotEmpty

-- a workbook without objects: looks at all of them
abbrev pub no_object : Look (Unit {0})
no_object next = look Objects (λ seen. judged (is_empty seen) next)

-- The reduction of the elements of an array to their sum, the least or the greatest of them (Chapel Language Specification,
-- Reductions and Scans).
use Rattle.std.specs.Prelude.{ℤ, Option, Some, None, Result, Ok, Err}
use Rattle.std.specs.FinMap.{get}
use Rattle.wb_cells.specs.declared.cells.cell.Cell.TheVariants.{Object}
use Rattle.wb_cells.specs.declared.cells.kind.Kind.{Kind}
use Rattle.wb_cells.specs.Cells.{Name, Cells}
use Rattle.wb_cells.specs.Readers.{elements}
use Rattle.wb_cells.specs.declared.refusal.WhyRefused as why
use Rattle.wb_cells.specs.declared.refusal.WhyRefused.TheVariants as refusals
use Rattle.wb_edit.specs.Numbers.{fits_integer}
use Rattle.wb_edit.specs.Looks.{array_kind}
use Rattle.wb_history.specs.declared.query.Answer.{Answer}
use Rattle.wb_history.specs.declared.query.Answer.TheVariants.{Value}
use Rattle.wb_edit.specs.declared.refusal.Refusal.{Refusal}
use Rattle.wb_edit.specs.declared.refusal.Refusal.TheVariants.{Refused, NoMemory}
use Rattle.wb_arrays.specs.Reductions.{reduction}
use Rattle.wb_arrays.specs.declared.reduction.Op.{Op}
use Rattle.wb_arrays.specs.declared.reduction.ReduceErr.{ReduceErr}
use Rattle.wb_arrays.specs.declared.reduction.ReduceErr.TheVariants as none
use Rattle.wb_edit.specs.Trees.{plain}

-- a reduction in plain integers, if there is one and it is within 64 bits: a sum is judged once, as a whole
abbrev pub reduced : Option ℤ → Result ℤ why.WhyRefused
reduced (Some z) = fits_integer z
reduced None = Err refusals.Empty

abbrev pub reduce_from : Cells → Name → Op → Result (Name × Kind) why.WhyRefused → Result ℤ why.WhyRefused
reduce_from s a op (Ok array) = reduced (reduction op (elements s a))
reduce_from s a op (Err e) = Err e

-- the name is an array's, and this is the reduction of its elements
abbrev pub reduce_answer : Cells → Name → Op → Result ℤ why.WhyRefused
reduce_answer s a op = reduce_from s a op (array_kind (get s (Object a)))

-- what a workbook makes of the elements as an answer
abbrev pub made_answer : Result ℤ ReduceErr → Result Answer Refusal
made_answer (Ok z) = Ok (Value z)
made_answer (Err none.Empty) = Err (Refused (plain refusals.Empty))
made_answer (Err none.Overflow) = Err (Refused (plain refusals.Overflow))
made_answer (Err none.NoMemory) = Err NoMemory

use Rattle.std.proofs.Common.{◌≡◌, take}
use Rattle.selective_undo.specs.Changes.{apply}
use Rattle.wb_edit.proofs.InTurn.{Made}
use Rattle.wb_edit.proofs.several.attempt_all.Given as goal

-- the commands so far are laid over the workbook, as their tree says
abbrev pub invariant-loop-place : goal.invariant-loop-place
invariant-loop-place l = record {
  made : Made (take l.place l.commands) l.fn.book.cells l.fn.footprint l.laid.laid l.footprint;
  here : l.laid.cells ≡ apply l.laid.laid l.fn.book.cells;
}

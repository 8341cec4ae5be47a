use Rattle.std.proofs.Common.{Result, subst}
use Rattle.selective_undo.specs.Changes.{apply}
use Rattle.selective_undo.specs.Edit.{written}
use Rattle.wb_cells.specs.declared.refusal.EditRefusal.{EditRefusal}
use Rattle.wb_cells.specs.Cells.{Cells, Changes}
use Rattle.wb_cells.specs.WellFormed.{IsWellFormed}
use Rattle.wb_edit.proofs.Kept.{command_keeps}
use Rattle.wb_edit.proofs.several.make_next.Goals as goal

pub lay-requires : goal.lay-requires
lay-requires c =
    let s : Cells = c.args.laid.cells in
    let kept = command_keeps c.args.command.now s c.validity.ensures c.is_formed.ensures in
    subst (λ (o : Result Changes EditRefusal). IsWellFormed (apply (written o) s)) c.in-Ok.ensures.0 kept

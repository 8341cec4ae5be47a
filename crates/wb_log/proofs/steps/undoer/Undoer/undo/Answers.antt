use Rattle.wb_log.proofs.Whole.{free_in_past}
use Rattle.wb_log.proofs.steps.undoer.Undoer.undo.Goals as goal

pub undo_at-requires-after_bounds : goal.undo_at-requires-after_bounds
undo_at-requires-after_bounds g c = λ _ _. free_in_past c.args.log.now.entries c.args.at c.requires

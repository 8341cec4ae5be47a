use Rattle.std.proofs.Common.{◌≡◌, ◌++◌}
use Rattle.wb_history.specs.Restored.{marked, IsCounted}
use Rattle.wb_history.proofs.history.History.restore.Given as goal

-- the history has the edits that are put in so far
abbrev pub invariant-loop-edit : goal.invariant-loop-edit
invariant-loop-edit g l = record {
  edits : l.history.entries ++ marked l.edit-iterator.rest.items ≡ marked l.fn.edits.items;
  counted : IsCounted l.history;
}

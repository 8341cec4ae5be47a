use Rattle.std.proofs.Common.{◌≡◌, ◌-◌, ◌≤◌, length, take}
use Rattle.wb_log.specs.Cascades.{AreUndone}
use Rattle.wb_log.proofs.log.Log.undo_each.Given as goal

-- the numbers up to here are undone
abbrev pub invariant-loop-done : goal.invariant-loop-done
invariant-loop-done g l = record {
  within : l.done ≤ length l.undone;
  undone : AreUndone l.initial.self.entries l.initial.self.writes (take l.done l.undone) l.self.entries l.count l.self.writes;
  none : l.done ≡ 0 → l.self ≡ l.initial.self;
}

abbrev pub decreases-loop-done : goal.decreases-loop-done
decreases-loop-done g l = length l.undone - l.done

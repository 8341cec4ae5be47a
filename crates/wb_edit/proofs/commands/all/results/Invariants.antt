use Rattle.std.proofs.Common.{◌≡◌, true, take}
use Rattle.std.specs.List.{list_all}
use Rattle.wb_edit.specs.Numbers.{is_i64}
use Rattle.wb_edit.proofs.SideBySide.{side_by_side}
use Rattle.wb_edit.proofs.commands.all.results.Given as goal

-- the results so far are there, all of 64 bits
abbrev pub invariant-loop-p : goal.invariant-loop-p
invariant-loop-p l = record {
  made : l.made.items ≡ take l.p (side_by_side l.how l.xs l.ys);
  within : list_all (λ z. is_i64 z.1) l.made.items ≡ true;
}

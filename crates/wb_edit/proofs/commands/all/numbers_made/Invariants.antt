use Rattle.std.proofs.Common.{◌≡◌, true, take}
use Rattle.std.specs.List.{list_all}
use Rattle.wb_edit.specs.Changed.{made_of}
use Rattle.wb_edit.specs.Numbers.{is_i64}
use Rattle.wb_edit.proofs.Numbered.{made_up_to}
use Rattle.wb_edit.proofs.commands.all.numbers_made.Given as goal

-- the results so far stand in front of what is left of the first numbers, all of 64 bits
abbrev pub invariant-loop-p : goal.invariant-loop-p
invariant-loop-p l = record {
  made : l.made.items ≡ made_up_to l.how l.p l.fn.xs.items l.ys;
  within : list_all is_i64 (take l.p (made_of l.how l.fn.xs.items l.ys)) ≡ true;
}

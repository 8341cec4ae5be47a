use Rattle.std.proofs.Common.{◌≡◌, ◌++◌, drop}
use Rattle.wb_company.proofs.doings.copied_from.Given as goal

-- those that are copied, and those that are left
abbrev pub invariant-loop-place : goal.invariant-loop-place
invariant-loop-place l = l.doings.items ++ drop l.place l.kept.items ≡ drop l.fn.at l.fn.kept.items

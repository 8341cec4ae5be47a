use Rattle.std.proofs.Common.{◌≡◌, true, not, is_some, drop}
use Rattle.std.specs.List.{list_all}
use Rattle.wb_book.proofs.storing.are_absent.Given as goal

abbrev pub invariant-loop-point : goal.invariant-loop-point
invariant-loop-point g l = list_all (λ e. not (is_some e.1)) (drop l._point-index l.changes) ≡ true → list_all (λ e. not (is_some e.1)) l.changes ≡ true

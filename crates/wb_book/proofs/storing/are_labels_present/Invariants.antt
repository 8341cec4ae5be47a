use Rattle.std.proofs.Common.{◌≡◌, true, is_some, take}
use Rattle.std.specs.List.{list_all}
use Rattle.wb_book.proofs.storing.are_labels_present.Given as goal

abbrev pub invariant-loop-at : goal.invariant-loop-at
invariant-loop-at l = list_all (λ e. is_some e.1) (take l.at l.labels.1) ≡ true

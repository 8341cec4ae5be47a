use Rattle.std.proofs.Common.{◌≡◌, ◌++◌, take, string_bytes}
use Rattle.std.specs.List.{flat_map}
use Rattle.wb_machine.specs.Pieces.{further, pair_text}
use Rattle.wb_machine.proofs.replies.pieces.push_more_pairs.Given as goal

abbrev pub invariant-loop-x : goal.invariant-loop-x
invariant-loop-x l = string_bytes l.out ≡ string_bytes l.initial.out ++ flat_map (further pair_text) (take l.x-index l.rest)

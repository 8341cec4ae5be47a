use Rattle.std.proofs.Common.{◌≡◌, ◌++◌, take, string_bytes}
use Rattle.std.specs.List.{flat_map}
use Rattle.std.specs.Fmt.{signed_decimal}
use Rattle.wb_machine.specs.Pieces.{further}
use Rattle.wb_machine.proofs.replies.pieces.push_more_integers.Given as goal

abbrev pub invariant-loop-x : goal.invariant-loop-x
invariant-loop-x l = string_bytes l.out ≡ string_bytes l.initial.out ++ flat_map (further signed_decimal) (take l.x-index l.rest)

use Rattle.std.proofs.Common.{◌≡◌, ◌++◌, take, string_bytes}
use Rattle.std.specs.List.{flat_map}
use Rattle.wb_text.specs.Literals.{further, index_text}
use Rattle.wb_text.proofs.lists.push_more_indices.Given as goal

abbrev pub invariant-loop-x : goal.invariant-loop-x
invariant-loop-x l = string_bytes l.out ≡ string_bytes l.initial.out ++ flat_map (further index_text) (take l.x-index l.rest)

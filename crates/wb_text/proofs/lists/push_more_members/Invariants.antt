use Rattle.std.proofs.Common.{◌≡◌, ◌++◌, length, string_bytes}
use Rattle.std.specs.List.{flat_map}
use Rattle.wb_text.specs.Literals.{further, index_text}
use Rattle.wb_text.proofs.lists.push_more_members.Given as goal

abbrev pub invariant-loop-index : goal.invariant-loop-index
invariant-loop-index l = string_bytes l.out ++ flat_map (further index_text) l.members ≡ string_bytes l.initial.out ++ flat_map (further index_text) l.initial.members

abbrev pub decreases-loop-index : goal.decreases-loop-index
decreases-loop-index l = length l.members

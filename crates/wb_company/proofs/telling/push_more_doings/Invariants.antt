use Rattle.std.proofs.Common.{◌≡◌, ◌++◌, take, string_bytes}
use Rattle.std.specs.List.{flat_map}
use Rattle.wb_company.specs.Texts.{further, doing_text}
use Rattle.wb_company.proofs.telling.push_more_doings.Given as goal

abbrev pub invariant-loop-doing : goal.invariant-loop-doing
invariant-loop-doing l = string_bytes l.out ≡ string_bytes l.initial.out ++ flat_map (further doing_text) (take l.doing-index l.rest)

use Rattle.std.proofs.Common.{◌≡◌, ◌++◌, take, string_bytes}
use Rattle.std.specs.List.{flat_map}
use Rattle.wb_company.specs.Texts.{further, guest_text}
use Rattle.wb_company.proofs.telling.push_more_guests.Given as goal

abbrev pub invariant-loop-guest : goal.invariant-loop-guest
invariant-loop-guest l = string_bytes l.out ≡ string_bytes l.initial.out ++ flat_map (further guest_text) (take l.guest-index l.rest)

use Rattle.std.proofs.Common.{◌≡◌, map}
use Rattle.serde_json.specs.View.{members_view}
use Rattle.wb_requests.specs.Explained.{foreign_in}
use Rattle.wb_requests.proofs.explaining.keys.foreign_among.Given as goal

abbrev pub invariant-loop-key : goal.invariant-loop-key
invariant-loop-key l = foreign_in (map (λ f. map (λ k. k.now) f.now) l.fn.forms) (members_view l.key-iterator) ≡ foreign_in (map (λ f. map (λ k. k.now) f.now) l.fn.forms) (members_view l.members.entries)

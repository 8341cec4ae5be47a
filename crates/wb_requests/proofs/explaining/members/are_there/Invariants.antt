use Rattle.std.proofs.Common.{◌≡◌, drop, map}
use Rattle.std.specs.List.{list_all}
use Rattle.serde_json.specs.View.{view}
use Rattle.wb_requests.specs.Explained.{is_there, members_in}
use Rattle.wb_requests.proofs.explaining.members.are_there.Given as goal

abbrev pub invariant-loop-key : goal.invariant-loop-key
invariant-loop-key l =
    list_all (is_there (members_in (view l.fn.value))) (map (λ k. k.now) (drop l.key-index l.keys)) ≡ list_all (is_there (members_in (view l.fn.value))) (map (λ k. k.now) l.keys)

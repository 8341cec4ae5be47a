use Rattle.std.proofs.Common.{◌≡◌, drop, map}
use Rattle.serde_json.specs.View.{view}
use Rattle.wb_requests.specs.Explained.{missing_in, members_in}
use Rattle.wb_requests.proofs.explaining.keys.missing_in.Given as goal

abbrev pub invariant-loop-key : goal.invariant-loop-key
invariant-loop-key l =
    missing_in (map (λ f. map (λ k. k.now) f.now) l.fn.forms) (members_in (view l.fn.value)) (map (λ k. k.now) (drop l.key-index l.keys)) ≡ missing_in (map (λ f. map (λ k. k.now) f.now) l.fn.forms) (members_in (view l.fn.value)) (map (λ k. k.now) l.keys)

use Rattle.std.proofs.Common.{◌≡◌, ◌≤◌, drop, length, map}
use Rattle.serde_json.specs.View.{view}
use Rattle.wb_requests.specs.Explained.{members_in, values_explained}
use Rattle.wb_requests.proofs.explaining.values.values_explained.Given as goal

abbrev pub invariant-loop-left : goal.invariant-loop-left
invariant-loop-left l = record {
  told : l.wrong ≡ values_explained l.fn.op (members_in (view l.fn.value)) (map (λ k. k.now) (drop l.left l.keys));
  within : l.left ≤ length l.keys;
}

abbrev pub decreases-loop-left : goal.decreases-loop-left
decreases-loop-left l = l.left

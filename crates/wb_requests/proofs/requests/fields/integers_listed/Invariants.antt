use Rattle.std.proofs.Common.{◌≡◌, ◌++◌, drop, option_map}
use Rattle.serde_json.specs.View.{items_view}
use Rattle.wb_requests.specs.Fields.{integers_listed}
use Rattle.wb_requests.proofs.requests.fields.integers_listed.Given as goal

abbrev pub invariant-loop-item : goal.invariant-loop-item
invariant-loop-item l = integers_listed (items_view l.items) ≡
    option_map (λ more. l.integers.items ++ more) (integers_listed (items_view (drop l.item-index l.items)))

use Rattle.std.proofs.Common.{◌≡◌, map, take}
use Rattle.serde_json.specs.View.{view}
use Rattle.wb_requests.specs.Encoding.Values.{integer_data}
use Rattle.wb_requests.proofs.encoding.literals.integers_value.Given as goal

abbrev pub invariant-loop-integer : goal.invariant-loop-integer
invariant-loop-integer l = map view l.items.items ≡ map integer_data (take l.integer-index l.integers)

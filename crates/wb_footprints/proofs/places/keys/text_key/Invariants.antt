use Rattle.std.proofs.Common.{◌≡◌, ◌-◌, ◌<◌, ◌^◌, drop}
use Rattle.wb_footprints.specs.Keys.{with_bytes}
use Rattle.wb_footprints.proofs.places.keys.text_key.Given as goal

abbrev pub invariant-loop-at : goal.invariant-loop-at
invariant-loop-at l = record {
  key : with_bytes l.key (7 - l.at) (drop l.at l.text) ≡ with_bytes 0 7 l.text;
  small : l.key < 256 ^ l.at;
}

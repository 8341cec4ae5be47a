use Rattle.std.proofs.Common.{◌≡◌, drop, map}
use Rattle.wb_requests.specs.Explained.{has}
use Rattle.wb_requests.proofs.explaining.keys.has.Given as goal

abbrev pub invariant-loop-known : goal.invariant-loop-known
invariant-loop-known l = has (map (λ k. k.now) (drop l.known-index l.keys)) l.fn.key ≡ has (map (λ k. k.now) l.keys) l.fn.key

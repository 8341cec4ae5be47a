use Rattle.std.proofs.Common.{◌≡◌, drop, map}
use Rattle.wb_requests.specs.Explained.{some_has}
use Rattle.wb_requests.proofs.explaining.keys.some_has.Given as goal

abbrev pub invariant-loop-keys : goal.invariant-loop-keys
invariant-loop-keys l = some_has (map (λ f. map (λ k. k.now) f.now) (drop l.keys-index l.forms)) l.fn.key ≡ some_has (map (λ f. map (λ k. k.now) f.now) l.forms) l.fn.key

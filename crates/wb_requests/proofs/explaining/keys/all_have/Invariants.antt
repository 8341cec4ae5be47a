use Rattle.std.proofs.Common.{◌≡◌, drop, map}
use Rattle.std.specs.List.{list_all}
use Rattle.wb_requests.specs.Explained.{has}
use Rattle.wb_requests.proofs.explaining.keys.all_have.Given as goal

abbrev pub invariant-loop-keys : goal.invariant-loop-keys
invariant-loop-keys l = list_all (λ f. has f l.fn.key) (map (λ f. map (λ k. k.now) f.now) (drop l.keys-index l.forms)) ≡ list_all (λ f. has f l.fn.key) (map (λ f. map (λ k. k.now) f.now) l.forms)

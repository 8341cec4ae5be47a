use Rattle.std.proofs.Common.{◌≡◌, drop, map}
use Rattle.serde_json.specs.View.{view}
use Rattle.wb_requests.specs.Explained.{form_in, members_in}
use Rattle.wb_requests.proofs.explaining.keys.form_in.Given as goal

abbrev pub invariant-loop-keys : goal.invariant-loop-keys
invariant-loop-keys l = form_in (members_in (view l.fn.value)) (map (λ f. map (λ k. k.now) f.now) (drop l.keys-index l.forms)) ≡ form_in (members_in (view l.fn.value)) (map (λ f. map (λ k. k.now) f.now) l.forms)

use Rattle.std.proofs.Common.{◌≡◌, ◌++◌, drop, map}
use Rattle.wb_requests.specs.Explained.{forms_of}
use Rattle.wb_requests.proofs.explaining.forms.forms_in.Given as goal

abbrev pub invariant-loop-form : goal.invariant-loop-form
invariant-loop-form l =
    map (λ f. map (λ k. k.now) f.now) l.found.items ++ forms_of l.fn.op (map (λ f. (f.0.now, map (λ k. k.now) f.1.now)) (drop l.form-index l.known)) ≡ forms_of l.fn.op (map (λ f. (f.0.now, map (λ k. k.now) f.1.now)) l.known)

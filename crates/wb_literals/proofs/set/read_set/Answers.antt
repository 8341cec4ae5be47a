use Rattle.std.proofs.Common.{◌≡◌, ◌↔◌, Option, Some, option_map, sym, ap, ◌∙◌, subst}
use Rattle.std.proofs.lemmas.Result.{IfOk-weaker}
use Rattle.wb_literals.specs.Set.{Items, set_literal_of}
use Rattle.wb_literals.specs.Said.{items}
use Rattle.wb_literals.specs.Grammar.{IsSet}
use Rattle.wb_literals.proofs.SetGrammar.{set_exact}
use Rattle.wb_literals.proofs.set.read_set.Goals as goal

pub returns-clause-spelling : goal.returns-clause-spelling
returns-clause-spelling c = IfOk-weaker c.whole_set.result (λ r. option_map items r ≡ set_literal_of c.as_bytes.result.now)
    (λ r. (x : Items) → (option_map items r ≡ Some x) ↔ IsSet c.args.text.now x)
    (λ r e x. subst (λ (o : Option Items). (o ≡ Some x) ↔ IsSet c.args.text.now x) (sym (e ∙ ap set_literal_of c.as_bytes.ensures.value))
    (set_exact c.args.text.now x)) c.whole_set.ensures

use Rattle.std.proofs.Common.{◌≡◌, ◌↔◌, Option, Some, option_map, sym, subst}
use Rattle.std.proofs.lemmas.Result.{IfOk-weaker}
use Rattle.wb_literals.specs.Domain.{Domain, domain_of}
use Rattle.wb_literals.specs.Said.{domain}
use Rattle.wb_literals.specs.Grammar.{IsDomain}
use Rattle.wb_literals.proofs.SetGrammar.{domain_exact}
use Rattle.wb_literals.proofs.domain.read_domain.Goals as goal

pub returns-clause-spelling : goal.returns-clause-spelling
returns-clause-spelling c = IfOk-weaker c.whole_domain.result (λ r. option_map domain r ≡ domain_of c.args.text.now)
    (λ r. (d : Domain) → (option_map domain r ≡ Some d) ↔ IsDomain c.args.text.now d)
    (λ r e d. subst (λ (o : Option Domain). (o ≡ Some d) ↔ IsDomain c.args.text.now d) (sym e) (domain_exact c.args.text.now d)) c.whole_domain.ensures

use Rattle.std.proofs.Common.{◌≡◌, ◌↔◌, Option, Some, sym, ap, ◌∙◌, subst}
use Rattle.wb_literals.specs.Mapping.{mapping_of}
use Rattle.wb_literals.specs.Grammar.{IsMapping}
use Rattle.wb_literals.specs.declared.mapping.MappingLiteral.{MappingLiteral}
use Rattle.wb_literals.proofs.MappingGrammar.{mapping_exact}
use Rattle.wb_literals.proofs.mapping.read_mapping.Goals as goal

pub returns-clause-spelling : goal.returns-clause-spelling
returns-clause-spelling c r = subst (λ (o : Option MappingLiteral). (o ≡ Some r) ↔ IsMapping c.args.text.now r)
    (sym (c.whole_mapping.ensures ∙ ap mapping_of c.as_bytes.ensures.value)) (mapping_exact c.args.text.now r)

-- What the literals of sets and of domains say.
use Rattle.wb_literals.specs.Set.{Items, nothing, integers, pairs, triples, texts}
use Rattle.wb_literals.specs.Domain.{Domain, rectangle, set}
use Rattle.wb_literals.specs.declared.set.SetLiteral.{SetLiteral}
use Rattle.wb_literals.specs.declared.set.SetLiteral.TheVariants.{Empty, Integers, Pairs, Triples, ShortTexts, Texts}
use Rattle.wb_literals.specs.declared.domain.DomainLiteral.{DomainLiteral}
use Rattle.wb_literals.specs.declared.domain.DomainLiteral.TheVariants as domains

abbrev pub items : SetLiteral → Items
items Empty = nothing
items (Integers v) = integers v.items
items (Pairs v) = pairs v.items
items (Triples v) = triples v.items
items (ShortTexts v) = texts v.items
items (Texts v) = texts v.items

abbrev pub domain : DomainLiteral → Domain
domain (domains.Rectangle r) = rectangle r
domain (domains.Set s) = set (items s)

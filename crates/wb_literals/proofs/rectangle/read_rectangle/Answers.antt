use Rattle.std.proofs.Common.{◌≡◌, ◌↔◌, Option, Some, sym, ap, ◌∙◌, subst}
use Rattle.wb_literals.specs.Rectangle.{rectangle_of}
use Rattle.wb_literals.specs.Grammar.{IsRectangle}
use Rattle.wb_literals.specs.declared.rectangle.RectangleLiteral.{RectangleLiteral}
use Rattle.wb_literals.proofs.RectangleGrammar.{rectangle_exact}
use Rattle.wb_literals.proofs.rectangle.read_rectangle.Goals as goal

pub returns-clause-spelling : goal.returns-clause-spelling
returns-clause-spelling c r = subst (λ (o : Option RectangleLiteral). (o ≡ Some r) ↔ IsRectangle c.args.text.now r)
    (sym (c.whole_rectangle.ensures ∙ ap rectangle_of c.as_bytes.ensures.value)) (rectangle_exact c.args.text.now r)

use Rattle.std.proofs.Common.{rules, ◌≡◌, ◌∷◌, ◌++◌, Option, ℤ, sym, ap, ◌∙◌}
use Rattle.wb_elements.specs.Piecewise.Marked.{numbers_of}
use Rattle.wb_elements.proofs.Piecewise.Marked.{number_more}
use Rattle.wb_elements.proofs.made.numbers.Goals as goal

pub loop-key-preserved : goal.loop-key-preserved
loop-key-preserved g c =
    let k : g.row.I.Denot = c.in-Some.key.now in
    let w : Option ℤ = c.in-Some.value.now in
    let rest : c.loop-key.key-iterator ≡ (k, w) ∷ c.next.new.self = search rules in
    ap (λ es. es ++ numbers_of c.next.new.self) c.in_ok-push_number.ensures
    ∙ number_more c.loop-key.pairs.items k w (numbers_of c.next.new.self)
    ∙ ap (λ ms. c.loop-key.pairs.items ++ numbers_of ms) (sym rest)
    ∙ c.loop-key.invariant

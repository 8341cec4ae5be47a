use Rattle.std.proofs.Common.{◌≡◌, ◌++◌, ◌∷◌, [], ap, ◌∙◌, subst, sym}
use Rattle.wb_lines.specs.Reading.{IsText}
use Rattle.wb_lines.proofs.Taking.{first_and_more, pushed}
use Rattle.wb_lines.proofs.turns.take_turn.Goals as goal

pub returns-clause-taken : goal.returns-clause-taken
returns-clause-taken g c =
    let items = pushed c.push_back.result c.is_err.result _ _ c.taken-first.result c.is_err.ensures.value c.if-is_err.false c.push_back.ensures.items in
    let one : c.push_back.new.self.items ≡ c.taken-first.result ∷ [] = items ∙ ap (λ ts. ts ++ c.taken-first.result ∷ []) c.requires.empty in
    first_and_more g.M.Asks.reads c.args.line c.args.buffer.now.line _ _ c.taken-first.result _ _ c.take_ahead.result one
    (λ text is. c.taken-first.ensures text (subst (λ b. IsText c.args.line b text) (sym c.line.ensures) is)) c.take_ahead.ensures.taken

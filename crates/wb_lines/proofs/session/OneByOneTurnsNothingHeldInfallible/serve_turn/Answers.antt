use Rattle.std.proofs.Common.{ℕ, List, [], refl, sym, subst}
use Rattle.wb_lines.specs.Reading.{IsText}
use Rattle.wb_lines.proofs.Sessions.{line_told, line_untold}
use Rattle.wb_lines.proofs.Taking.{takes_none}
use Rattle.wb_lines.proofs.session.OneByOneTurnsNothingHeldInfallible.serve_turn.Goals as goal

pub returns-in-Ok-clause-ok : goal.returns-in-Ok-clause-ok
returns-in-Ok-clause-ok g c = λ first is. (
  [],
  takes_none _ _ refl (record { reads = refl; at_end = refl; fault = refl }),
  line_told g.M.Machine.answers _ _ first _ _
      (c.in-Ok.ensures.ok first (subst (λ (b : List ℕ). IsText c.args.line b first) (sym c.line.ensures) is)),
)

pub returns-in-Err-clause-err : goal.returns-in-Err-clause-err
returns-in-Err-clause-err g c = λ first is. (
  [],
  takes_none _ _ refl (record { reads = refl; at_end = refl; fault = refl }),
  line_untold g.M.Machine.answers _ _ first _ _
      (c.in-Err.ensures.err first (subst (λ (b : List ℕ). IsText c.args.line b first) (sym c.line.ensures) is)),
)

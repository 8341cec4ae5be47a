use Rattle.std.proofs.Common.{inl, inr, length, true≢false, sym, ap, ◌∙◌, arith}
use Rattle.wb_footprints.proofs.questions.swept.SweptCells.new.Goals as goal

pub returns : goal.returns
returns c = λ index waiting after. record {
  cells = λ d k n is up met. elim is [
    | inl e ↦ absurd (true≢false (sym e ∙ c.new-cells.ensures d k))
    | inr g ↦ absurd (omega (arith, g.1.1, ap length c.new-runs.ensures.items))
  ];
  families = λ d k n is up met. absurd (true≢false (sym is ∙ c.new-families.ensures d k));
}

use Rattle.std.proofs.Common.{ℕ, inl, subst}
use Rattle.wb_seats.specs.Early.{IsSettledFrom}
use Rattle.wb_seats.proofs.early.StayingSettlings.before_line.Goals as goal

pub returns : goal.returns
returns g c = λ line text k answers. inl (record {
  told = c.settle_from.result;
  before = c.settle_from.new.pass;
  is_before = subst (λ (n : ℕ). IsSettledFrom n g.L.Opening.seats g.L.Opening.opening c.args.pass.now c.settle_from.result c.settle_from.new.pass)
      c.kept_limit.ensures c.settle_from.ensures;
  answers = answers;
})

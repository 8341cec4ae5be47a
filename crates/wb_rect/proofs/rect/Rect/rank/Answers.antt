use Rattle.std.proofs.Common.{◌≡◌, length, arith, rules}
use Rattle.wb_rect.proofs.rect.Rect.rank.Goals as goal

pub returns-clause-kept : goal.returns-clause-kept
returns-clause-kept g c =
    let n : length c.self.inside.ranges ≡ g.row.R = search rules in
    rw (← c.self.view_is) (record {
      dimensions = n;
      at_least_one = c.self.invariant.some_ranges;
      at_most_three = c.self.invariant.few_ranges;
      kept = c.self.invariant.kept;
      size = omega (arith, c.self.invariant.sized, c.self.invariant.few);
      once = c.self.invariant.once;
    })

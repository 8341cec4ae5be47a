use Rattle.wb_dist.specs.Same.{same_indices-exact}
use Rattle.wb_edit.proofs.numbered_rectangle.are_same_numbers.Goals as goal

pub returns : goal.returns
returns c = rw c.eq.ensures (same_indices-exact c.args.numbers.now c.args.others.now)

use Rattle.std.proofs.Common.{◌≡◌, length, ap, arith}
use Rattle.std.proofs.lemmas.Bool.Decides.{same_from_decides}
use Rattle.wb_cells.proofs.Inside.{has_point, has_none_of_other_rank}
use Rattle.wb_cells.proofs.values.rectangle.contains_in.Goals as goal

pub returns-then-coordinates : goal.returns-then-coordinates
returns-then-coordinates g c =
    let n : length c.coordinates-coordinates.result.now ≡ length c.args.point.now = ap length c.coordinates-coordinates.ensures in
    has_none_of_other_rank c.args.rect.now c.args.point.now (λ e. omega (arith, n, c.rank-kept.ensures.kept.dimensions))

pub returns : goal.returns
returns g c =
    same_from_decides c.contains.result _ (rw (c.copy_from_slice.ensures.after, c.coordinates-coordinates.ensures) at c.contains.ensures)
    (has_point c.args.rect.now c.args.point.now)

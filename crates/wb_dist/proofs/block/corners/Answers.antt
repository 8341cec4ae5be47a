use Rattle.std.proofs.Common.{◌≡◌, length, rules, sym, ◌∙◌}
use Rattle.wb_dist.proofs.Corners.{IsCorner, has_corner, no_corner, far_corner, no_far_corner, rank_of_corner}
use Rattle.wb_dist.proofs.block.corners.Goals as goal

pub returns-in_err-low-clause-filled : goal.returns-in_err-low-clause-filled
returns-in_err-low-clause-filled g c = rw c.from_residual.ensures (sym (no_corner c.args.bounds.now (sym (c.in_err-low.was) ∙ c.nth.ensures)))

pub returns-in_err-high-clause-filled : goal.returns-in_err-high-clause-filled
returns-in_err-high-clause-filled g c =
    let h : IsCorner c.args.bounds.now c.in_ok-low.low = has_corner c.args.bounds.now c.in_ok-low.low (sym (c.in_ok-low.was) ∙ c.nth.ensures) in
    absurd (no_far_corner c.args.bounds.now c.in_ok-low.low c.size.result h c.size.ensures.count (sym (c.in_err-high.was) ∙ c.nth-2.ensures))

pub returns-clause-filled : goal.returns-clause-filled
returns-clause-filled g c = sym (has_corner c.args.bounds.now c.in_ok-low.low (sym (c.in_ok-low.was) ∙ c.nth.ensures)).filled

pub returns-clause-low : goal.returns-clause-low
returns-clause-low g c = (has_corner c.args.bounds.now c.in_ok-low.low (sym (c.in_ok-low.was) ∙ c.nth.ensures)).low_is

pub returns-clause-high : goal.returns-clause-high
returns-clause-high g c =
    let h : IsCorner c.args.bounds.now c.in_ok-low.low = has_corner c.args.bounds.now c.in_ok-low.low (sym (c.in_ok-low.was) ∙ c.nth.ensures) in
    far_corner c.args.bounds.now c.in_ok-low.low c.in_ok-high.high c.size.result h c.size.ensures.count (sym (c.in_ok-high.was) ∙ c.nth-2.ensures)

pub returns-clause-rank : goal.returns-clause-rank
returns-clause-rank g c =
    let h : IsCorner c.args.bounds.now c.in_ok-low.low = has_corner c.args.bounds.now c.in_ok-low.low (sym (c.in_ok-low.was) ∙ c.nth.ensures) in
    let l : length c.in_ok-low.low ≡ g.row.R = search rules in
    rank_of_corner c.args.bounds.now c.in_ok-low.low h ∙ l

use Rattle.std.proofs.Common.{◌≤◌, length, min, arith, sym, ◌∙◌}
use Rattle.wb_cells.proofs.Compared.{ends}
use Rattle.wb_cells.proofs.values.compared.compared.Goals as goal

pub returns : goal.returns
returns g c =
    let h : min (length c.args.a.now) (length c.args.b.now) ≤ c.loop-i.i = omega (arith, c.min-i-end.ensures, c.loop-i-test.false) in
    let l : c.loop-i.i ≤ length c.args.a.now = omega (arith, c.min-i-end.ensures, c.loop-i.auto.i-end) in
    let m : c.loop-i.i ≤ length c.args.b.now = omega (arith, c.min-i-end.ensures, c.loop-i.auto.i-end) in
    c.cmp.ensures ∙ sym (ends g.T.Ord.cmp c.args.a.now c.args.b.now c.loop-i.i h l m) ∙ sym c.loop-i.invariant

use Rattle.std.proofs.Common.{◌+◌, pos, drop, get_or, SFits, w64, to_z-of_z, arith, rules}
use Rattle.wb_dist.proofs.Lists.{drop_next}
use Rattle.wb_dist.proofs.Counting.{fits, counted_more, not_counted, some_if, none_if}
use Rattle.wb_dist.proofs.grid.locales_on.Goals as goal

pub returns-in-None : goal.returns-in-None
returns-in-None c =
    let n = get_or c.args.grid.now c.loop-k.k (pos 0) in
    let f : SFits w64 n = search rules in
    let d = drop_next c.args.grid.now c.loop-k.k (pos 0) (omega arith) in
    let t = none_if (fits c.loop-k.locales n) _ (simp to_z-of_z at c.in-None.ensures) in
    rw (not_counted c.args.grid.now n (drop (c.loop-k.k + 1) c.args.grid.now) c.loop-k.locales (rw d at c.loop-k.invariant) t)

pub loop-k-preserved : goal.loop-k-preserved
loop-k-preserved c =
    let n = get_or c.args.grid.now c.loop-k.k (pos 0) in
    let f : SFits w64 n = search rules in
    let d = drop_next c.args.grid.now c.loop-k.k (pos 0) (omega arith) in
    let t = some_if (fits c.loop-k.locales n) _ _ (simp to_z-of_z at c.in-Some.ensures) in
    rw t.1 (counted_more c.args.grid.now n (drop (c.loop-k.k + 1) c.args.grid.now) c.loop-k.locales (rw d at c.loop-k.invariant) t.0)

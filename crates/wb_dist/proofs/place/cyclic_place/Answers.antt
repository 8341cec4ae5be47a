use Rattle.std.proofs.Common.{◌≡◌, pos, drop, get_or, SFits, w64, to_z-of_z, arith, rules}
use Rattle.std.proofs.lemmas.Int.{ints}
use Rattle.std.proofs.lemmas.List.{drop_all}
use Rattle.wb_dist.specs.Maps.{cyclic_coordinates}
use Rattle.wb_dist.proofs.Places.{IsEntry, IsRoom, entry_at, listed_all, cyclic_more}
use Rattle.wb_dist.proofs.place.cyclic_place.Goals as goal

pub overflow_mul-at : goal.overflow_mul-at
overflow_mul-at c =
    let n = get_or c.args.grid.now c.loop-k.k (pos 0) in
    let f : SFits w64 n = search rules in
    let e : pos c.unsigned-count.result ≡ n = simp to_z-of_z at c.unsigned-count.ensures in
    let h : IsEntry n c.loop-k.at = entry_at c.args.grid.now _ (cyclic_coordinates (drop c.loop-k.k c.args.start.now) (drop c.loop-k.k c.args.grid.now)
    (drop c.loop-k.k c.args.index.now)) c.loop-k.k c.loop-k.at c.loop-k.invariant (omega arith) in
    let r : IsRoom c.unsigned-count.result c.loop-k.at 0 = h.room c.unsigned-count.result 0 e (omega (arith, ints, h.positive)) in
    omega (arith, r.scaled)

pub overflow_add-at : goal.overflow_add-at
overflow_add-at c =
    let n = get_or c.args.grid.now c.loop-k.k (pos 0) in
    let f : SFits w64 n = search rules in
    let e : pos c.unsigned-count.result ≡ n = simp to_z-of_z at c.unsigned-count.ensures in
    let h : IsEntry n c.loop-k.at = entry_at c.args.grid.now _ (cyclic_coordinates (drop c.loop-k.k c.args.start.now) (drop c.loop-k.k c.args.grid.now)
    (drop c.loop-k.k c.args.index.now)) c.loop-k.k c.loop-k.at c.loop-k.invariant (omega arith) in
    let r : IsRoom c.unsigned-count.result c.loop-k.at c.cyclic_coordinate.result =
    h.room c.unsigned-count.result c.cyclic_coordinate.result e c.cyclic_coordinate.ensures.below in
    omega (arith, r.next)

pub loop-k-preserved : goal.loop-k-preserved
loop-k-preserved c =
    let n = get_or c.args.grid.now c.loop-k.k (pos 0) in
    let f : SFits w64 n = search rules in
    let e : pos c.unsigned-count.result ≡ n = simp to_z-of_z at c.unsigned-count.ensures in
    let i : SFits w64 (get_or c.args.start.now c.loop-k.k (pos 0)) = search rules in
    let m : SFits w64 (get_or c.args.index.now c.loop-k.k (pos 0)) = search rules in
    let v = simp to_z-of_z at c.cyclic_coordinate.ensures.value in
    cyclic_more c.args.start.now c.args.grid.now c.args.index.now _ c.loop-k.k c.unsigned-count.result c.loop-k.at c.cyclic_coordinate.result
    c.loop-k.invariant (omega arith) (omega arith) (omega arith) e v c.cyclic_coordinate.ensures.below

pub returns-clause-row_major : goal.returns-clause-row_major
returns-clause-row_major c =
    let a = drop_all c.loop-k.k c.args.start.now (omega arith) in
    let b = drop_all c.loop-k.k c.args.grid.now (omega arith) in
    listed_all c.args.grid.now _ c.loop-k.at (rw (a, b) at c.loop-k.invariant)

use Rattle.std.proofs.Common.{◌≡◌, pos, drop, get_or, SFits, w64, to_z-of_z, arith, rules}
use Rattle.std.proofs.lemmas.Int.{ints}
use Rattle.std.proofs.lemmas.List.{drop_all}
use Rattle.wb_dist.specs.Maps.{block_cyclic_coordinates}
use Rattle.wb_dist.proofs.Places.{IsEntry, IsRoom, entry_at, listed_all, block_cyclic_more, positive_after}
use Rattle.wb_dist.proofs.place.block_cyclic_place.Goals as goal

pub overflow_mul-at : goal.overflow_mul-at
overflow_mul-at c =
    let n = get_or c.args.grid.now c.loop-k.k (pos 0) in
    let f : SFits w64 n = search rules in
    let e : pos c.unsigned-count.result ≡ n = simp to_z-of_z at c.unsigned-count.ensures in
    let h : IsEntry n c.loop-k.at = entry_at c.args.grid.now _ (block_cyclic_coordinates (drop c.loop-k.k c.args.start.now) (drop c.loop-k.k c.args.size.now)
    (drop c.loop-k.k c.args.grid.now) (drop c.loop-k.k c.args.index.now)) c.loop-k.k c.loop-k.at c.loop-k.invariant.placed (omega arith) in
    let r : IsRoom c.unsigned-count.result c.loop-k.at 0 = h.room c.unsigned-count.result 0 e (omega (arith, ints, h.positive)) in
    omega (arith, r.scaled)

pub overflow_add-at : goal.overflow_add-at
overflow_add-at c =
    let n = get_or c.args.grid.now c.loop-k.k (pos 0) in
    let f : SFits w64 n = search rules in
    let e : pos c.unsigned-count.result ≡ n = simp to_z-of_z at c.unsigned-count.ensures in
    let h : IsEntry n c.loop-k.at = entry_at c.args.grid.now _ (block_cyclic_coordinates (drop c.loop-k.k c.args.start.now) (drop c.loop-k.k c.args.size.now)
    (drop c.loop-k.k c.args.grid.now) (drop c.loop-k.k c.args.index.now)) c.loop-k.k c.loop-k.at c.loop-k.invariant.placed (omega arith) in
    let r : IsRoom c.unsigned-count.result c.loop-k.at c.block_cyclic_coordinate.result =
    h.room c.unsigned-count.result c.block_cyclic_coordinate.result e c.block_cyclic_coordinate.ensures.below in
    omega (arith, r.next)

pub loop-k-preserved : goal.loop-k-preserved
loop-k-preserved c =
    let n = get_or c.args.grid.now c.loop-k.k (pos 0) in
    let f : SFits w64 n = search rules in
    let e : pos c.unsigned-count.result ≡ n = simp to_z-of_z at c.unsigned-count.ensures in
    let i : SFits w64 (get_or c.args.start.now c.loop-k.k (pos 0)) = search rules in
    let j : SFits w64 (get_or c.args.size.now c.loop-k.k (pos 0)) = search rules in
    let m : SFits w64 (get_or c.args.index.now c.loop-k.k (pos 0)) = search rules in
    let b : pos c.unsigned.result ≡ get_or c.args.size.now c.loop-k.k (pos 0) = simp to_z-of_z at c.unsigned.ensures in
    let v = simp to_z-of_z at c.block_cyclic_coordinate.ensures.value in
    record {
      placed = block_cyclic_more c.args.start.now c.args.size.now c.args.grid.now c.args.index.now _ c.loop-k.k c.unsigned.result c.unsigned-count.result
          c.loop-k.at c.block_cyclic_coordinate.result
          c.loop-k.invariant.placed (omega arith) (omega arith) (omega arith) (omega arith) b e v c.block_cyclic_coordinate.ensures.below;
      filled = positive_after c.args.size.now c.loop-k.k c.loop-k.invariant.filled (omega arith);
    }

pub returns-clause-row_major : goal.returns-clause-row_major
returns-clause-row_major c =
    let a = drop_all c.loop-k.k c.args.start.now (omega arith) in
    let b = drop_all c.loop-k.k c.args.grid.now (omega arith) in
    listed_all c.args.grid.now _ c.loop-k.at (rw (a, b) at c.loop-k.invariant.placed)

use Rattle.std.proofs.Common.{◌≡◌, length, take, None, cond}
use Rattle.std.specs.Option.{option_or}
use Rattle.std.specs.BTreeMap.{get}
use Rattle.wb_range.specs.Lookup.{has}
use Rattle.wb_arrays.proofs.bound.filled.Given as goal

abbrev pub invariant-loop-place : goal.invariant-loop-place
invariant-loop-place g l =
    let cmp = g.D.Index.Ord.cmp in
    let xs = g.D.Domain.indices l.domain in
    record {
      all : l.place-end ≡ length xs;
      so_far : (q : _) → get cmp l.fresh q ≡ cond (has cmp (take l.place xs) q) (option_or (get cmp l.map q) l.default) None;
    }

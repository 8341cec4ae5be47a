use Rattle.std.proofs.Common.{◌≡◌, drop}
use Rattle.std.specs.Option.{option_or}
use Rattle.std.specs.BTreeMap.{get}
use Rattle.wb_arrays.specs.Elements.{value_at}
use Rattle.wb_arrays.proofs.bound.put_absent.Given as goal

-- what the rest of the pairs still adds
abbrev pub invariant-loop-index : goal.invariant-loop-index
invariant-loop-index g l =
    let cmp = g.I.Ord.cmp in
    (q : _) → option_or (get cmp l.map q) (value_at cmp (drop l.index-index l.pairs) q) ≡ option_or (get cmp l.fn.map q) (value_at cmp l.pairs q)

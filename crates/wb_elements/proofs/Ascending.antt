-- A list of nothing ascends.
use Rattle.std.proofs.Common.{[]}
use Rattle.std.specs.declared.cmp.Ordering.{Ordering}
use Rattle.std.specs.List.Sorted.{IsStrictlySortedBy}

pub ascending-nothing : {K : Type 0} (cmp : K → K → Ordering) → IsStrictlySortedBy cmp []
unfolding IsStrictlySortedBy
ascending-nothing cmp = tt

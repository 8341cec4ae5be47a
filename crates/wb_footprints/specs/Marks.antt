-- Which numbers stand at which keys.
use Rattle.std.specs.Prelude.{ℕ, Bool}
use Rattle.std.specs.BTreeSet.{contains}
use Rattle.std.specs.Ordering.{nat_cmp, ordering_then}
use Rattle.std.specs.declared.cmp.Ordering.{Ordering}
use Rattle.wb_footprints.specs.declared.marks.key_marks.Marks.{Marks}

-- the order of pairs of a key and a number
abbrev pub pair_cmp : {K : Type 0} → (K → K → Ordering) → (K × ℕ) → (K × ℕ) → Ordering
pair_cmp cmp x y = ordering_then (cmp x.0 y.0) (nat_cmp x.1 y.1)

-- whether a number stands at a key
abbrev pub marked : {K : Type 0} → (K → K → Ordering) → Marks K → K → ℕ → Bool
marked cmp m k n = contains (pair_cmp cmp) m.set (k, n)

-- Pairs put into a finite map one after another, and what stands at a key then.
use Rattle.std.specs.Prelude.{cond, List, [], ◌∷◌, Option, Some, None, unwrap_or}
use Rattle.std.specs.FinMap.{FinMap, insert}
use Rattle.std.specs.Ordering.{eq_by_cmp}
use Rattle.std.specs.declared.cmp.Ordering.{Ordering}

-- the map with the pairs put into it one after another
abbrev pub inserted : {K V : Type 0} {order : K → K → Ordering} → List (K × V) → FinMap order V → FinMap order V
inserted [] s = s
inserted (e ∷ es) s = inserted es (insert s e.0 e.1)

-- the first of two, if it is there, and else the second
abbrev pub or_else : {V : Type 0} → Option V → Option V → Option V
or_else a b = elim b [ None ↦ a | Some v ↦ Some (unwrap_or a v) ]

-- the value of the last of the pairs whose key ties with one
abbrev pub last_of : {K V : Type 0} → (K → K → Ordering) → List (K × V) → K → Option V
last_of order [] c = None
last_of order (e ∷ es) c = or_else (last_of order es c) (cond (eq_by_cmp order c e.0) (Some e.1) None)

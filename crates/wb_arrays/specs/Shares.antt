-- How the locales of a mapping are shared out among workers.
use Rattle.std.specs.Prelude.{ℕ, ◌+◌, ◌-◌, ◌*◌, ◌/◌, ◌%◌, min, ℤ, List, [], Result, Ok, Err}
use Rattle.std.specs.declared.vec.Vec.{Vec}
use Rattle.std.specs.List.{flat_map}
use Rattle.wb_arrays.specs.Pieces.{pieces_from, lists_of}

-- the first locale that a worker makes: the shares lie side by side, and the first ones have one locale more where the division leaves a rest
abbrev pub first_locale : (locales workers worker : ℕ) → ℕ
first_locale locales workers worker = worker * (locales / workers) + min worker (locales % workers)

-- the pieces that a worker makes
abbrev pub share_of : {I : Type 0} → (locale : I → ℕ) → List (I × ℤ) → (locales workers worker : ℕ) → List (List (I × ℤ))
share_of locale es locales workers worker =
    pieces_from locale es (first_locale locales workers worker) (first_locale locales workers (worker + 1) - first_locale locales workers worker)

module _ {I E Z : Type 0} where
  -- the pieces that a worker handed back
  abbrev pub lists_in : Result (Vec (Vec (I × ℤ) Z) Z) E → List (List (I × ℤ))
  lists_in (Ok v) = lists_of v.items
  lists_in (Err e) = []

  -- the pieces that all workers handed back, in their order
  abbrev pub lists_joined : List (Result (Vec (Vec (I × ℤ) Z) Z) E) → List (List (I × ℤ))
  lists_joined shares = flat_map lists_in shares

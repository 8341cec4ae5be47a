-- Where a key would stand among ascending keys.
use Rattle.std.specs.Prelude.{◌≡◌, ℕ, ◌≤◌, List, length}
use Rattle.std.specs.List.{AllWithin}
use Rattle.std.specs.declared.cmp.Ordering.{Ordering}
use Rattle.std.specs.declared.cmp.Ordering.TheVariants.{Less, Greater}

-- the keys before place q are below the key, and those from q on above it
pub record IsGap {K : Type 0} (cmp : K → K → Ordering) (xs : List K) (key : K) (q : ℕ) : Type 0 where
  pub within : q ≤ length xs
  pub below : AllWithin (λ y. cmp y key ≡ Less) xs 0 q
  pub above : AllWithin (λ y. cmp y key ≡ Greater) xs q (length xs)

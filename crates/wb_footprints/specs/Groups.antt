-- Which numbers stand at which indices by blocks that are kept by keys.
use Rattle.std.specs.Prelude.{◌≡◌, ℕ, ◌+◌, Bool, true, false, cond, ◌&&◌, ◌==◌, nat_le, nat_lt, List}
use Rattle.std.specs.List.{list_any, AllByRecursion}
use Rattle.std.specs.Ordering.{nat_cmp}
use Rattle.wb_footprints.specs.declared.marks.blocks.Blocks.{Blocks}
use Rattle.wb_footprints.specs.declared.marks.key_marks.Marks.{Marks}
use Rattle.wb_footprints.specs.Marks.{marked}
use Rattle.wb_cells.specs.declared.values.index.Index.{Index}
use Rattle.wb_footprints.specs.Keys.{index_key}
use Rattle.wb_footprints.specs.Blocks.{in_blocks}

-- whether a number stands at an index by the blocks of one of some keys
abbrev pub in_groups : List (ℕ × Blocks) → Index → ℕ → Bool
in_groups gs p n = list_any (λ g. in_blocks g.1.list.items p n) gs

-- a test passes of each key, index and number of which the key's blocks say that the number stands at the index
abbrev pub AreAll : (ℕ → Index → ℕ → Bool) → List (ℕ × Blocks) → Type 0
AreAll f gs = AllByRecursion (λ g. (p : Index) (n : ℕ) → in_blocks g.1.list.items p n ≡ true → f g.0 p n ≡ true) gs

-- whether a number has a key as a home, and the key of an index is from that one up to a reach
abbrev pub is_kept : ℕ → Marks ℕ → ℕ → Index → ℕ → Bool
is_kept reach homes k p n = (nat_le k (index_key p) && nat_le (index_key p) (k + reach)) && (nat_lt 0 k && marked nat_cmp homes n k)

-- whether a key and a number are not two given ones
abbrev pub is_apart : ℕ → ℕ → ℕ → ℕ → Bool
is_apart key number k n = cond ((key == k) && (number == n)) false true

-- What the indexes of a history say of its edits: as much as has entered of what is kept, by number.
use Rattle.std.specs.Prelude.{◌≡◌, ℕ, ◌≤◌, ◌<◌, nat_lt, List, length, None, is_some, if◌then◌else◌}
use Rattle.wb_footprints.specs.Footprints.{Footprints, IsIndexOf}
use Rattle.wb_footprints.specs.Numbers.{numbered}
use Rattle.wb_log.specs.declared.entry.LoggedEdit.{LoggedEdit}
use Rattle.wb_log.specs.declared.index.EditIndex.{EditIndex}
use Rattle.wb_log.specs.declared.index.bound.LatestBound.{LatestBound}
use Rattle.wb_log.specs.declared.index.by_footprint.ByFootprint.{ByFootprint}
use Rattle.wb_log.specs.declared.index.in_force.InForce.{InForce}
use Rattle.wb_cells.specs.Cells.{Cells}
use Rattle.wb_log.specs.Kept.{Shows, by_number, numbered_entries}
use Rattle.wb_log.specs.Past.{AreValid}

-- the footprints of the numbers up to n alone
abbrev pub up_to : ℕ → Footprints → Footprints
up_to n footprints k = if nat_lt n k then None else footprints k

-- Numbers begin at 1, at most `count` have entered, and the index is of their footprints.
pub record IsByFootprint (by_footprint : ByFootprint) (count : ℕ) (footprints : Footprints) : Type 0 where
  pub from_1 : footprints 0 ≡ None
  pub within : by_footprint.entered ≤ count
  pub index : IsIndexOf by_footprint.index (up_to by_footprint.entered footprints)

-- Of the numbers up to one that is told, at most `count`, none has a footprint that is above the bound.
pub record IsBound (latest : LatestBound) (count : ℕ) (footprints : Footprints) : Type 0 where
  pub told : latest.told ≤ count
  pub bound : latest.bound ≤ latest.told
  pub above : (k : ℕ) → latest.bound < k → k ≤ latest.told → footprints k ≡ None

-- Numbers begin at 1, at most `count` have entered, the set is of those that have a footprint, and the bound is theirs.
pub record AreInForce (in_force : InForce) (count : ℕ) (footprints : Footprints) : Type 0 where
  pub from_1 : footprints 0 ≡ None
  pub within : in_force.entered ≤ count
  pub numbers : (k : ℕ) → numbered in_force.numbers k ≡ is_some (up_to in_force.entered footprints k)
  pub bound : IsBound in_force.bound count footprints

-- Both are so: each index is of as much as has entered it.
pub record Indexes (index : EditIndex) (count : ℕ) (footprints : Footprints) : Type 0 where
  pub by_footprint : IsByFootprint index.by_footprint count footprints
  pub in_force : AreInForce index.in_force count footprints

-- An index is of what is kept of the edits.
abbrev pub IsIndexed : EditIndex → List LoggedEdit → Type 0
IsIndexed index es = Indexes index (length es) (by_number es)

-- What a history keeps: its entries show the cells of its book, its edits are valid, and its index is of what is kept.
pub record Keeps (es : List LoggedEdit) (s : Cells) (index : EditIndex) : Type 0 where
  pub shows : Shows es s
  pub valid : AreValid (numbered_entries es)
  pub indexed : IsIndexed index es

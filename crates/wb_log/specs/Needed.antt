-- Dependents by what is kept of the edits, by their numbers.
use Rattle.std.specs.Prelude.{◌≡◌, ℕ, ◌<◌, true, List, Some, ◌⊎◌, ◌↔◌}
use Rattle.selective_undo.specs.History.{Has, Falls}
use Rattle.selective_undo.specs.Log.{Footprint, blocks_undo}
use Rattle.wb_cells.specs.Schema.{workbook}
use Rattle.wb_footprints.specs.Footprints.{Footprints}
use Rattle.wb_footprints.specs.Numbers.{Numbers, numbered}

-- The edit of number j is later than that of number m, and needs it.
pub record NeedsKept (footprints : Footprints) (j m : ℕ) : Type 0 where
  pub later : m < j
  pub footprint : Footprint workbook
  pub kept : footprints m ≡ Some footprint
  pub needs : blocks_undo footprint.touched (footprints j) ≡ true

-- The least set of numbers that has k, and each that needs one that it has.
pub data FromFootprints (footprints : Footprints) (k : ℕ) : ℕ → Type 0 where
  itself : FromFootprints footprints k k
  through : {j m : ℕ} → NeedsKept footprints j m → FromFootprints footprints k m → FromFootprints footprints k j

-- that set, from the greatest down
abbrev pub AreFromFootprints : Footprints → ℕ → List ℕ → Type 0
AreFromFootprints footprints k ns = Falls ns × ((n : ℕ) → Has ns n ↔ FromFootprints footprints k n)

-- Those came in that need m, and no others.
pub record Joined (old new : Numbers) (footprints : Footprints) (m : ℕ) : Type 0 where
  pub from : (n : ℕ) → numbered new n ≡ true → (numbered old n ≡ true) ⊎ NeedsKept footprints n m
  pub stay : (n : ℕ) → numbered old n ≡ true → numbered new n ≡ true
  pub all : (n : ℕ) → NeedsKept footprints n m → numbered new n ≡ true

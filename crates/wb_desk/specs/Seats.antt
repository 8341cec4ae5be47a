-- How many seats a desk can have.
use Rattle.std.specs.Prelude.{◌≡◌, ℕ, ◌<◌, ◌≤◌}
use Rattle.wb_desk.specs.declared.desk.DeskErr.{DeskErr}
use Rattle.wb_desk.specs.declared.desk.DeskErr.TheVariants.{BadSeats}

-- 1 to 16
abbrev pub IsNumberOfSeats : ℕ → Type 0
IsNumberOfSeats n = (0 < n) × (n ≤ 16)

-- There are bad seats exactly where no desk can have so many.
abbrev pub IsSeatsErr : ℕ → DeskErr → Type 0
IsSeatsErr n why = ((why ≡ BadSeats) → ¬ IsNumberOfSeats n) × (¬ (why ≡ BadSeats) → IsNumberOfSeats n)

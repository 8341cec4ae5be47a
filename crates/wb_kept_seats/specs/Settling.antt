-- Why a desk whose changes are kept is not settled.
use Rattle.std.specs.Prelude.{◌≡◌, false, List}
use Rattle.wb_desk.specs.Serving.{Held}
use Rattle.wb_desk.specs.Settling.{IsCause}
use Rattle.wb_kept_seats.specs.KeptCourses.{KeptCourse}
use Rattle.wb_kept_seats.specs.declared.settling.SettleErr.{SettleErr}
use Rattle.wb_kept_seats.specs.declared.settling.SettleErr.TheVariants.{Passes, NotKept}

-- the first cause why the passes and the journal don't agree, or that the desk is closed
abbrev pub IsSettleCause : KeptCourse → List Held → SettleErr → Type 0
IsSettleCause k ps (Passes why) = IsCause k.course.seats k.course.entries ps why
IsSettleCause k ps (NotKept why) = k.is_open ≡ false

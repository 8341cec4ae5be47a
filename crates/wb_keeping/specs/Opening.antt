-- What a file of lines is before, while and after it is begun with a history.
use Rattle.std.specs.Prelude.{◌≡◌, ◌≢◌, ◌⊎◌, ◌<◌, ℕ, List, [], ◌∷◌, IsTrue, IsFalse, string_bytes}
use Rattle.wb_keep.specs.Disk.Device.{LeavesOnly}
use Rattle.wb_keep.specs.declared.disk.device.Device as Device
use Rattle.wb_keeping.specs.Granting.Granting.{Begins}
use Rattle.wb_keep.specs.Lines.{recovered, is_ours, HasHeader}
use Rattle.wb_lines.specs.Lines.{IsUnbroken}
use Rattle.wb_machine.specs.Histories.Text.{history_text}
use Rattle.wb_keeping.specs.declared.opening.BeginErr.{BeginErr}
use Rattle.wb_keeping.specs.declared.opening.BeginErr.TheVariants as errs
use Rattle.wb_keeping.specs.declared.beginning.Opening.{Opening}

-- the history begins with the line, which has no line end
pub record IsOpening (o : Opening) : Type 0 where
  pub begins : Begins (string_bytes o.line) o.history
  pub unbroken : IsUnbroken (string_bytes o.line)

-- it is the one that has this text
pub record OpensWith (text : List ℕ) (o : Opening) : Type 0 where
  pub is_opening : IsOpening o
  pub same : text ≡ history_text o.history.entries

-- the file has the lines that another had, or this one alone
pub record IsOldOrBegun (held line file : List ℕ) : Type 0 where
  pub lines : (recovered file ≡ recovered held) ⊎ (recovered file ≡ line ∷ [])
  pub head : HasHeader held → HasHeader file

-- the file has failed since some moment of the way
abbrev pub HasFailedSince : {D : Type 0} → Device.Ghosts D → (file left : D) → (held line : List ℕ) → Type 0
HasFailedSince {D} device file left held line =
    (mid : D) × LeavesOnly device.moment device.left_since file mid (IsOldOrBegun held line) × (device.faults mid < device.faults left)

-- Why a file is not begun, and how it is left: as it was, where it is of another kind or has a line; else a crash leaves the lines from
-- before, or the new one.
abbrev pub IsNoBeginning : {D : Type 0} → Device.Ghosts D → (file : D) → (held line : List ℕ) → BeginErr → (left : D) → Type 0
IsNoBeginning device file held line errs.NotOurs left = IsFalse (is_ours held) × (left ≡ file)
IsNoBeginning device file held line errs.HasLines left = IsTrue (is_ours held) × (recovered held ≢ []) × (left ≡ file)
IsNoBeginning device file held line errs.Memory left = LeavesOnly device.moment device.left_since file left (IsOldOrBegun held line)
IsNoBeginning device file held line errs.Failed left =
    LeavesOnly device.moment device.left_since file left (IsOldOrBegun held line) × HasFailedSince device file left held line

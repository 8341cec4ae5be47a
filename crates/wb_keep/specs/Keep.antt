-- What a log that is open keeps.
use Rattle.std.specs.Prelude.{◌≡◌, ◌⊎◌, ℕ, ◌+◌, List, ◌++◌, length}
use Rattle.wb_keep.specs.Disk.Device.{Only}
use Rattle.wb_keep.specs.Lines.{recovered, IsAtRest, HasHeader}
use Rattle.wb_keep.specs.declared.keep.LineLog.{LineLog}

-- the file is at rest, all of it on the disk
pub record IsSettled {D : Type 0} (seen : D → List ℕ) (may_leave : D → List ℕ → Type 0) (log : LineLog D) : Type 0 where
  pub file : IsAtRest (seen log.device)
  pub mark : log.mark + 1 + file.room ≡ length (seen log.device)
  pub last : log.last + 1 ≡ length (seen log.device)
  pub durable : Only (seen log.device) (may_leave log.device)

-- the file stands for the old lines, with all of the new ones behind them or with none
pub record IsBeforeOrAfter (old new : List (List ℕ)) (file : List ℕ) : Type 0 where
  pub head : HasHeader file
  pub lines : (recovered file ≡ old) ⊎ (recovered file ≡ old ++ new)

-- the file stands for the old lines or for the new ones
pub record IsOldOrNew (old new : List (List ℕ)) (file : List ℕ) : Type 0 where
  pub head : HasHeader file
  pub lines : (recovered file ≡ old) ⊎ (recovered file ≡ new)

-- What each command does with files.
use Rattle.std.specs.Prelude.{◌≡◌, ℕ, true, false}
use Rattle.wb_command.specs.declared.Asked.{Asked}
use Rattle.wb_command.specs.declared.Asked.TheVariants as ask
use Rattle.wb_keep.specs.declared.disk.device.Device as Device
use Rattle.wb_sessions.specs.Beginning.{BeginsAt}
use Rattle.wb_sessions.specs.Compacting.{CompactsAt}
use Rattle.wb_sessions.specs.Keeping.{ReadsNothing, RunsKept, Streams, UsesFile, its_writer}
use Rattle.wb_sessions.specs.declared.files.OpensFiles as OpensFiles

module _ {D J H : Type 0} (device : Device.Ghosts D) (files : OpensFiles.Ghosts J D H) where
  -- A session with a journal opens one, what makes one anew, and a desk with one. No other command does.
  abbrev pub UsesFiles : Asked → ℕ → (before after : J) → Streams → Type 0
  UsesFiles (ask.RunKept path false workers) status before after s = UsesFile device files (RunsKept device) path status after s
  UsesFiles (ask.RunKept path true workers) status before after s = BeginsAt device files path status before after s
  UsesFiles (ask.Compact path) status before after s = ReadsNothing s × CompactsAt device files path status after (its_writer s)
  -- (what a desk with a journal does with its file is `KeepsDay`)
  UsesFiles (ask.ServeKept path port seats workers) status before after s = Unit {0}
  UsesFiles asked status before after s = after ≡ before

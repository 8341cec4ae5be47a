use Rattle.wb_keep.specs.Disk.Calls.{seen_after}
use Rattle.wb_keep.specs.Lines.{recovered}
use Rattle.wb_kept_tests.proofs.group.six_threads_are_kept_together.Given as goal

abbrev pub ghosts-six_threads-O-Ledger : goal.ghosts-six_threads-O-Ledger
ghosts-six_threads-O-Ledger g a = record { name = a.blank.name; parts = a.blank.parts }

abbrev pub ghosts-six_threads-O-Group : goal.ghosts-six_threads-O-Group
ghosts-six_threads-O-Group g a = record { book = a.opened.seen.book; all = a.blank.parts }

abbrev pub ghosts-six_threads-O-Opening : goal.ghosts-six_threads-O-Opening
ghosts-six_threads-O-Opening g a = record { opening = recovered (seen_after a.log.device.calls) }

use Rattle.wb_keep.specs.Disk.Calls.{seen_after}
use Rattle.wb_keep.specs.Lines.{recovered}
use Rattle.wb_kept_tests.proofs.group.is_left.Given as goal

abbrev pub ghosts-two_turns-O-Ledger : goal.ghosts-two_turns-O-Ledger
ghosts-two_turns-O-Ledger a = record { name = a.blank.name; parts = a.blank.parts }

abbrev pub ghosts-two_turns-O-Group : goal.ghosts-two_turns-O-Group
ghosts-two_turns-O-Group a = record { book = a.opened.seen.book; all = a.blank.parts }

abbrev pub ghosts-two_turns-O-Opening : goal.ghosts-two_turns-O-Opening
ghosts-two_turns-O-Opening a = record { opening = recovered (seen_after a.log.device.calls) }

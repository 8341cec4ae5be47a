use Rattle.wb_desk.specs.Openings.{nothing_done, whole_from}
use Rattle.wb_tests.proofs.desk.days.mixed_load.Given as goal

abbrev pub ghosts-day_of-L-Ledger : goal.ghosts-day_of-L-Ledger
ghosts-day_of-L-Ledger g a = record { name = a.blank.name; parts = a.blank.parts }

abbrev pub ghosts-day_of-L-Opening : goal.ghosts-day_of-L-Opening
ghosts-day_of-L-Opening g a = record { opening = whole_from nothing_done; seats = a.day.now.seats }

use Rattle.wb_desk.specs.Openings.{whole_from}
use Rattle.wb_tests.proofs.desk.openings.resumed_desk_settles.Given as goal

abbrev pub ghosts-day_from-L-Ledger : goal.ghosts-day_from-L-Ledger
ghosts-day_from-L-Ledger g a = record { name = a.blank.name; parts = a.blank.parts }

abbrev pub ghosts-day_from-L-Opening : goal.ghosts-day_from-L-Opening
ghosts-day_from-L-Opening g a = record { opening = whole_from a.history; seats = 1 }

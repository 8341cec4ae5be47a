use Rattle.wb_desk.specs.Openings.{whole_from}
use Rattle.wb_tests.proofs.desk.openings.desk_of_too_many_seats.Given as goal

abbrev pub ghosts-given_back-L-Ledger : goal.ghosts-given_back-L-Ledger
ghosts-given_back-L-Ledger g a = record { name = a.blank.name; parts = a.blank.parts }

abbrev pub ghosts-given_back-L-Opening : goal.ghosts-given_back-L-Opening
ghosts-given_back-L-Opening g a = record { opening = whole_from a.history; seats = a.seats }

use Rattle.wb_desk.specs.Openings.{whole_from}
use Rattle.wb_seats.proofs.serving.serve_history.Given as goal

abbrev pub ghosts-serve_day-L-Ledger : goal.ghosts-serve_day-L-Ledger
ghosts-serve_day-L-Ledger g a = record { name = a.blank.name; parts = a.blank.parts }

abbrev pub ghosts-serve_day-L-Opening : goal.ghosts-serve_day-L-Opening
ghosts-serve_day-L-Opening g a = record { opening = whole_from a.history; seats = a.seats }

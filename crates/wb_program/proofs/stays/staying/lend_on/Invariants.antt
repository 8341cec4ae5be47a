use Rattle.wb_desk.specs.Openings.{nothing_done}
use Rattle.wb_seats.specs.Early.{early_from}
use Rattle.wb_program.proofs.stays.staying.lend_on.Given as goal

abbrev pub ghosts-lend_desk-L-Ledger : goal.ghosts-lend_desk-L-Ledger
ghosts-lend_desk-L-Ledger g a = record { name = a.blank.name; parts = a.blank.parts }

abbrev pub ghosts-lend_desk-L-Opening : goal.ghosts-lend_desk-L-Opening
ghosts-lend_desk-L-Opening g a = record { opening = early_from nothing_done; seats = a.seats }

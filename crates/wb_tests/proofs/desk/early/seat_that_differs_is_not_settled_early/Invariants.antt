use Rattle.std.specs.Prelude.{true}
use Rattle.wb_desk.specs.Openings.{nothing_done}
use Rattle.wb_tests.proofs.desk.early.seat_that_differs_is_not_settled_early.Given as goal

abbrev pub ghosts-day_of_two-L-Ledger : goal.ghosts-day_of_two-L-Ledger
ghosts-day_of_two-L-Ledger g a = record { name = a.blank.name; parts = a.blank.parts }

abbrev pub ghosts-day_of_two-L-Opening : goal.ghosts-day_of_two-L-Opening
ghosts-day_of_two-L-Opening g a = record { opening = record { history = nothing_done; early = true }; seats = 2 }

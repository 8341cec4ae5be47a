use Rattle.std.specs.Prelude.{true}
use Rattle.wb_desk.specs.Openings.{nothing_done}
use Rattle.wb_tests.proofs.desk.forms.entries_of_more_names_than_are_gone_through.Given as goal

abbrev pub ghosts-day_of_names-L-Ledger : goal.ghosts-day_of_names-L-Ledger
ghosts-day_of_names-L-Ledger g a = record { name = a.blank.name; parts = a.blank.parts }

abbrev pub ghosts-day_of_names-L-Opening : goal.ghosts-day_of_names-L-Opening
ghosts-day_of_names-L-Opening g a = record { opening = record { history = nothing_done; early = true }; seats = 1 }

use Rattle.wb_desk.specs.Openings.{whole_from}
use Rattle.wb_keep.specs.Lines.{recovered}
use Rattle.wb_program.proofs.kept_serving.serve_kept_on.Given as goal

abbrev pub ghosts-serve_kept_day-L-Ledger : goal.ghosts-serve_kept_day-L-Ledger
ghosts-serve_kept_day-L-Ledger g a = record { name = a.blank.name; parts = a.blank.parts }

abbrev pub ghosts-serve_kept_day-L-Opening : goal.ghosts-serve_kept_day-L-Opening
ghosts-serve_kept_day-L-Opening g a = record { opening = whole_from a.kept.state; seats = a.seats }

abbrev pub ghosts-serve_kept_day-L-KeptOpening : goal.ghosts-serve_kept_day-L-KeptOpening
ghosts-serve_kept_day-L-KeptOpening g a = record {
  begun = g.D.Device.moment a.kept.log.device;
  lines = recovered (g.D.Device.seen a.kept.log.device);
  book = a.opened.seen.book;
  taking = a.taking.name;
}

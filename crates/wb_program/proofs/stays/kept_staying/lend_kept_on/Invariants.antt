use Rattle.wb_seats.specs.Early.{early_from}
use Rattle.wb_keep.specs.Lines.{recovered}
use Rattle.wb_program.proofs.stays.kept_staying.lend_kept_on.Given as goal

abbrev pub ghosts-lend_kept_desk-L-Ledger : goal.ghosts-lend_kept_desk-L-Ledger
ghosts-lend_kept_desk-L-Ledger g a = record { name = a.blank.name; parts = a.blank.parts }

abbrev pub ghosts-lend_kept_desk-L-Opening : goal.ghosts-lend_kept_desk-L-Opening
ghosts-lend_kept_desk-L-Opening g a = record { opening = early_from a.kept.state; seats = a.seats }

abbrev pub ghosts-lend_kept_desk-L-KeptOpening : goal.ghosts-lend_kept_desk-L-KeptOpening
ghosts-lend_kept_desk-L-KeptOpening g a = record {
  begun = g.D.Device.moment a.kept.log.device;
  lines = recovered (g.D.Device.seen a.kept.log.device);
  book = a.opened.seen.book;
  taking = a.taking.name;
}

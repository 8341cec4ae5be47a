use Rattle.std.proofs.Common.{inl, inr, refl}
use Rattle.wb_sessions.specs.Keeping.{writer_alone}
use Rattle.wb_sessions.proofs.OpenedJournals.{turned}
use Rattle.wb_program.proofs.stays.kept_staying.stay_kept_with.Goals as goal

pub returns-in-Ok-clause-runs : goal.returns-in-Ok-clause-runs
returns-in-Ok-clause-runs g c =
    let told = c.host_stay.ensures in
    let hosts = told.hosts in
    inl (record {
      opened = c.in-Ok.kept;
      is_opened = c.in-Ok.ensures.ok;
      text = hosts.0;
      written = hosts.1;
      hosts = hosts.2;
      flushed = told.flushed;
      failed = told.failed;
    })

pub returns-in-Err-clause-runs : goal.returns-in-Err-clause-runs
returns-in-Err-clause-runs g c =
    inr
    (turned g.D.Device c.args.file c.args.held.now c.in-Err.why c.in-Err.file c.turned_away.result
    (writer_alone g.W.Sink c.args.writer.now c.turned_away.new.writer) c.in-Err.ensures.err c.turned_away.ensures.told c.turned_away.ensures.file (refl, refl))

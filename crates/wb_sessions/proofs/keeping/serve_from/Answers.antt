use Rattle.std.proofs.Common.{refl}
use Rattle.wb_sessions.proofs.keeping.serve_from.Goals as goal

pub returns-clause-serves : goal.returns-clause-serves
returns-clause-serves g c =
    let served = c.served-end.ensures in
    record {
      end = c.served-end.result;
      after = c.served-end.new.kept;
      session = served.session;
      reads = served.read;
      writes = served.written;
      keeps = served.disk;
      is_status = c.status_of_end.ensures.status;
      is_fault = c.fault_of_end.ensures;
      is_file = refl;
    }

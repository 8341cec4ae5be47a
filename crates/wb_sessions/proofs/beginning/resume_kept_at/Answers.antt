use Rattle.std.proofs.Common.{inr}
use Rattle.wb_sessions.specs.Keeping.{Streams}
use Rattle.wb_sessions.specs.Resuming.{failed_in, left_in, reads_in}
use Rattle.wb_sessions.proofs.beginning.resume_kept_at.Goals as goal

pub returns-in-Ok-clause-keeps : goal.returns-in-Ok-clause-keeps
returns-in-Ok-clause-keeps g c =
    let told = c.in-Ok.ensures in
    let mid = c.opening_from.new.reader in
    let new = c.begin_kept_at.new in
    let later : g.row.W.Denot → Streams = λ w. record {
      unread = left_in g.R.Source.remaining mid;
      left = left_in g.R.Source.remaining new.reader;
      reads_before = reads_in mid;
      reads_after = reads_in new.reader;
      read_failed = failed_in new.reader;
      sent = g.W.Sink.contents w;
      told = g.W.Sink.contents new.writer;
      flushed = g.W.Sink.flushed new.writer;
      write_failed = g.W.Sink.failed new.writer;
    } in
    inr (
      c.in-Ok.opening.history,
      later c.opening_from.new.writer,
      record {
        front = told.text.0;
        consumed = told.text.1;
        ends = told.text.2;
        is_record = told.text.3;
        made = told.counted.0;
        counted = told.counted.1;
        same = λ i. later (told.silent i);
      },
      c.begin_kept_at.ensures.keeps,
    )

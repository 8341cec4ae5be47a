use Rattle.std.proofs.Common.{inl, refl, subst}
use Rattle.wb_sessions.specs.Beginning.{RunsBegun}
use Rattle.wb_sessions.specs.Keeping.{streams}
use Rattle.wb_sessions.proofs.beginning.begin_kept_at.Goals as goal

pub returns-in-Ok-clause-keeps : goal.returns-in-Ok-clause-keeps
returns-in-Ok-clause-keeps g c =
    let file = c.in-Ok.file in
    let held = c.in-Ok.held.items in
    let run = c.begin_kept_with-status.result in
    let s = streams g.R.Source g.W.Sink c.args.reader.now c.begin_kept_with-status.new.reader c.args.writer.now c.begin_kept_with-status.new.writer in
    inl (record {
      file = file;
      held = held;
      came = c.close.ensures.came c.args.path.now file held c.in-Ok.ensures.came;
      seen = c.in-Ok.ensures.held.0;
      durable = c.in-Ok.ensures.held.1;
      run = run;
      uses = subst (λ bytes. RunsBegun g.D.Device c.args.opening.history file bytes run s) c.deref.ensures.value c.begin_kept_with-status.ensures.runs;
      is_status = refl;
      fails = c.begin_kept_with-status.ensures.failed;
      closed = c.close.ensures.closed;
      told = c.close.ensures.told;
    })

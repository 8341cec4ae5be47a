use Rattle.std.proofs.Common.{inl, refl, subst}
use Rattle.wb_sessions.specs.Keeping.{writer_alone}
use Rattle.wb_program.specs.KeptStays.{RunsStay}
use Rattle.wb_program.proofs.stays.kept_staying.stay_kept.Goals as goal

pub returns-in-Ok-clause-keeps : goal.returns-in-Ok-clause-keeps
returns-in-Ok-clause-keeps g c =
    let file = c.in-Ok.file in
    let held = c.in-Ok.held.items in
    let run = c.stay_kept_with-status.result in
    let port_failed = g.B.Lands.failed c.stay_kept_with-status.new.ports in
    let s = writer_alone g.W.Sink c.args.writer.now c.stay_kept_with-status.new.writer in
    inl (record {
      file = file;
      held = held;
      came = c.close.ensures.came c.args.path.now file held c.in-Ok.ensures.came;
      seen = c.in-Ok.ensures.held.0;
      durable = c.in-Ok.ensures.held.1;
      run = run;
      runs = subst (λ bytes. RunsStay g.I.Source g.O.Sink g.G.Guests g.D.Device file bytes c.args.asked.now.place c.args.asked.now.seats run port_failed s) c.deref.ensures.value
          c.stay_kept_with-status.ensures.runs;
      is_status = refl;
      closed = c.close.ensures.closed;
      told = c.close.ensures.told;
    })

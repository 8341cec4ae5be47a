use Rattle.std.proofs.Common.{inl, refl, subst, ◌∙◌}
use Rattle.wb_sessions.specs.Compacting.{Compacts}
use Rattle.wb_sessions.specs.Keeping.{writer_alone}
use Rattle.wb_sessions.proofs.MadeAnew.{not_found}
use Rattle.wb_sessions.proofs.compacting.compact_at.Goals as goal

pub returns-in-Ok : goal.returns-in-Ok
returns-in-Ok g c =
    let file = c.in-Ok.file in
    let held = c.in-Ok.held.items in
    let run = c.compact_with-status.result in
    let s = writer_alone g.W.Sink c.args.writer.now c.compact_with-status.new.writer in
    record {
      keeps = inl (
        c.close.ensures.missing ∙ c.in-Ok.ensures.found,
        inl (record {
          file = file;
          held = held;
          came = c.close.ensures.came c.args.path.now file held c.in-Ok.ensures.came;
          seen = c.in-Ok.ensures.held.0;
          durable = c.in-Ok.ensures.held.1;
          run = run;
          uses = subst (λ bytes. Compacts g.D.Device file bytes run s) c.deref.ensures.value c.compact_with-status.ensures.compacts;
          is_status = refl;
          fails = c.compact_with-status.ensures.failed;
          closed = c.close.ensures.closed;
          told = c.close.ensures.told;
        }),
      );
    }

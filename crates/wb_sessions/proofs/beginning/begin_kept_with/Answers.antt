use Rattle.std.proofs.Common.{inl, inr, refl}
use Rattle.std.specs.Prelude.{string_bytes}
use Rattle.wb_sessions.proofs.Begun.{not_begun, not_begun_fails, not_begun_finishes}
use Rattle.wb_sessions.proofs.beginning.begin_kept_with.Goals as goal

pub returns-in-Ok-clause-runs : goal.returns-in-Ok-clause-runs
returns-in-Ok-clause-runs g c =
    let told = c.in-Ok.ensures in
    inl (record {
      opened = c.in-Ok.kept;
      is_begun = record {
        ours = told.empty.0;
        no_line = told.empty.1;
        line = string_bytes c.args.opening.line;
        begins = c.requires.opening.begins;
        is_kept = told.kept;
        is_past = told.begun.0;
        is_line = told.begun.1;
        any_moment = told.any_moment;
      };
      serves = c.serve_from.ensures.serves;
    })

pub returns-in-Err-clause-runs : goal.returns-in-Err-clause-runs
returns-in-Err-clause-runs g c =
    inr
    (not_begun g.D.Device c.args.opening.history c.args.file c.args.held.now (string_bytes c.args.opening.line) c.in-Err.why c.in-Err.file c.not_begun.result _
    c.requires.opening.begins c.in-Err.ensures.err c.not_begun.ensures.told c.not_begun.ensures.file ((refl, refl), refl))

pub returns-in-Err-clause-done : goal.returns-in-Err-clause-done
returns-in-Err-clause-done g c e = absurd (not_begun_finishes c.in-Err.why c.not_begun.result.status c.not_begun.result.fault c.not_begun.ensures.told e)

pub returns-in-Err-clause-failed : goal.returns-in-Err-clause-failed
returns-in-Err-clause-failed g c e = inr (not_begun_fails c.in-Err.why c.not_begun.result.status c.not_begun.result.fault c.not_begun.ensures.told e)

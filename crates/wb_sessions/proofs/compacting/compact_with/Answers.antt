use Rattle.std.proofs.Common.{inl, inr, refl}
use Rattle.wb_sessions.proofs.MadeAnew.{all_moments, anew_fails}
use Rattle.wb_sessions.proofs.compacting.compact_with.Goals as goal

pub returns-in-Ok-clause-compacts : goal.returns-in-Ok-clause-compacts
returns-in-Ok-clause-compacts g c =
    inl (record {
      opened = c.in-Ok.kept;
      is_opened = c.in-Ok.ensures.ok;
      any_moment = all_moments g.D.Device c.args.file c.args.held.now c.in-Ok.kept c.in-Ok.ensures.ok c.anew.result.file c.anew.ensures.any_moment;
      ends = c.anew.ensures.ends;
      nothing = ((refl, refl), refl);
    })

pub returns-in-Ok-clause-failed : goal.returns-in-Ok-clause-failed
returns-in-Ok-clause-failed g c e = inr (anew_fails g.D.Device c.in-Ok.kept.log.device c.in-Ok.kept.state.entries c.anew.result c.anew.ensures.ends e)

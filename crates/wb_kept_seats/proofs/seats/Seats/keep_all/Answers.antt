use Rattle.std.proofs.Common.{◌≡◌, ◌<◌, refl, sym, ap, ◌∙◌, subst}
use Rattle.wb_keep.specs.declared.keep.LineLog.{LineLog}
use Rattle.wb_keep.specs.declared.keep.AppendErr.TheVariants as appending
use Rattle.wb_kept_seats.specs.declared.commit.CommitErr.TheVariants.{DiskFault}
use Rattle.wb_kept_seats.specs.Files.{LeavesTurns}
use Rattle.wb_kept_seats.specs.KeptCourses.{KeptCourse, kept_course}
use Rattle.wb_kept_seats.proofs.Files.{left_within}
use Rattle.wb_kept_seats.proofs.Fronts.{kept_same}
use Rattle.wb_kept_seats.proofs.Committing.{fault_by, same_error, no_error}
use Rattle.wb_kept_seats.proofs.seats.Seats.keep_all.Goals.{in-Ok, in-Err}
use Rattle.wb_kept_seats.proofs.seats.Seats.keep_all.Goals as goal

pub invariant_of-self : goal.invariant_of-self
invariant_of-self g c =
    let was = c.self.inside in
    kept_same g.L.Opening.opening.history g.L.KeptOpening.lines (kept_course was.shared was.turns was.changes was.is_open)
    (kept_course was.shared c.keep_all.new.desk was.changes was.is_open) c.self.invariant refl c.keep_all.ensures.made refl refl

pub returns-clause-any_moment : goal.returns-clause-any_moment
returns-clause-any_moment g c = elim c.match-keep_all.branch [
  | in-Ok w ↦
      let log : c.match-keep_all.result.0 ≡ w.in-Ok.file.journal.log = ap (λ r. r.0) w.result-is ∙ w.into_log.ensures in
      subst (λ (x : LineLog g.row.D.Denot). LeavesTurns g.D.Device.moment g.D.Device.left_since g.L.KeptOpening.lines g.L.KeptOpening.begun x c.args.self.now.made) (sym log)
      (subst (λ (k : KeptCourse). LeavesTurns g.D.Device.moment g.D.Device.left_since g.L.KeptOpening.lines g.L.KeptOpening.begun w.in-Ok.file.journal.log k.made) c.self.view_is
      w.in-Ok.ensures.kept.1.any_moment)
  | in-Err w ↦
      let log : c.match-keep_all.result.0 ≡ w.in-Err.file.journal.log = ap (λ r. r.0) w.result-is ∙ w.into_log-in-Err.ensures in
      let left = w.in-Err.ensures.left in
      subst (λ (x : LineLog g.row.D.Denot). LeavesTurns g.D.Device.moment g.D.Device.left_since g.L.KeptOpening.lines g.L.KeptOpening.begun x c.args.self.now.made) (sym log)
      (subst (λ (k : KeptCourse). LeavesTurns g.D.Device.moment g.D.Device.left_since g.L.KeptOpening.lines g.L.KeptOpening.begun w.in-Err.file.journal.log k.made) c.self.view_is
      (left_within g.D.Device.seen g.D.Device.may_leave g.D.Device.moment g.D.Device.left_since g.L.KeptOpening.lines g.L.KeptOpening.begun
      left.old.journal.log w.in-Err.file.journal.log left.before left.turns c.self.inside.turns.1 left.had.any_moment left.left left.within))
]

pub returns-clause-disk : goal.returns-clause-disk
returns-clause-disk g c = elim c.match-keep_all.branch [
  | in-Ok w ↦ λ fault. absurd (no_error c.match-keep_all.result.1 tt DiskFault (ap (λ r. r.1) w.result-is) fault)
  | in-Err w ↦ λ fault.
      let log : c.match-keep_all.result.0 ≡ w.in-Err.file.journal.log = ap (λ r. r.0) w.result-is ∙ w.into_log-in-Err.ensures in
      let why = same_error c.match-keep_all.result.1 w.of.result DiskFault (ap (λ r. r.1) w.result-is) fault in
      let failed = w.in-Err.ensures.failed appending.Failed (fault_by w.in-Err.error (sym w.of.ensures ∙ why)) in
      (c.args.keeper.store.journal.log, subst (λ (x : LineLog g.row.D.Denot). g.D.Device.faults c.args.keeper.store.journal.log.device < g.D.Device.faults x.device) (sym log) failed.1.2)
]

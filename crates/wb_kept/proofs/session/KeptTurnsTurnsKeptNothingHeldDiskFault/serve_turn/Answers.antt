use Rattle.std.proofs.Common.{[], ◌∷◌, ◌<◌, Err, refl, ap, subst}
use Rattle.std.proofs.KnownBytes.{Appends-nil}
use Rattle.wb_keep.specs.declared.keep.LineLog.{LineLog}
use Rattle.wb_lines.specs.declared.machine.Stop.TheVariants.{NoMemory, Other}
use Rattle.wb_kept.specs.declared.kept.Turn.{Turn}
use Rattle.wb_kept.proofs.Serving.{nothing_kept, turn_goes, turn_unsent, turn_lost}
use Rattle.wb_kept.proofs.session.KeptTurnsTurnsKeptNothingHeldDiskFault.serve_turn.Goals as goal

pub returns-in_default-clause-err : goal.returns-in_default-clause-err
returns-in_default-clause-err g c = λ first is.
    let taken = c.answer_turn.ensures.taken in (
      taken.0,
      taken.1,
      (
        [],
        Appends-nil _,
        nothing_kept g.M.Machine.answers g.D.Device.seen g.D.Device.may_leave g.D.Device.moment g.D.Device.left_since g.D.Device.faults
            g.met.D.Device.only_now c.args.kept.now c.answer_turn.new.kept (first ∷ taken.0) c.answer_turn.ensures.log c.requires.rests,
      ),
    )

pub returns-in-Ok-give_out-clause-ok : goal.returns-in-Ok-give_out-clause-ok
returns-in-Ok-give_out-clause-ok g c = λ first is.
    let w = c.in-Ok.ensures.ok first is in
    let kept = c.in-Ok-commit.ensures.kept in (
      w.more,
      w.takes,
      (
        c.in-Ok-commit.acknowledged.turn.replies.items,
        c.in-Ok-give_out.ensures.sent,
        turn_goes g.M.Machine.answers g.D.Device.seen g.D.Device.may_leave g.D.Device.moment g.D.Device.left_since g.D.Device.faults c.args.kept.now
            c.answer_turn.new.kept c.commit.new.self first c.args.buffer.now c.answer_turn.new.buffer _ _ c.in-Ok.count c.answer_turn.ensures.log w
            c.commit.ensures.any_moment c.commit.ensures.faults kept.0 kept.1 c.commit.ensures.state _
            (ap (λ (x : Turn). x.replies.items) c.in-Ok-commit.ensures.given),
      ),
    )

pub returns-in-Ok-commit-clause-err : goal.returns-in-Ok-commit-clause-err
returns-in-Ok-commit-clause-err g c = λ first is.
    let w = c.in-Ok.ensures.ok first is in
    let kept = c.in-Ok-commit.ensures.kept in
    let part = c.in-Err-give_out.ensures.part in (
      w.more,
      w.takes,
      (
        part.0,
        part.1,
        turn_unsent g.M.Machine.answers g.D.Device.seen g.D.Device.may_leave g.D.Device.moment g.D.Device.left_since g.D.Device.faults c.args.kept.now
            c.answer_turn.new.kept c.commit.new.self first c.args.buffer.now c.answer_turn.new.buffer _ _ c.in-Ok.count c.answer_turn.ensures.log w
            c.commit.ensures.any_moment c.commit.ensures.faults kept.0 kept.1 c.commit.ensures.state part.0
            c.in-Ok-commit.acknowledged.turn.replies.items (ap (λ (x : Turn). x.replies.items) c.in-Ok-commit.ensures.given) part.2,
      ),
    )

pub returns-in-Err-Failed-clause-err : goal.returns-in-Err-Failed-clause-err
returns-in-Err-Failed-clause-err g c = λ first is.
    let w = c.in-Ok.ensures.ok first is in
    let same = c.answer_turn.ensures.log in (
      w.more,
      w.takes,
      (
        [],
        Appends-nil _,
        turn_lost g.M.Machine.answers g.D.Device.seen g.D.Device.may_leave g.D.Device.moment g.D.Device.left_since g.D.Device.faults c.args.kept.now
            c.answer_turn.new.kept c.commit.new.self first c.args.buffer.now c.answer_turn.new.buffer _ _ c.in-Ok.count same w
            c.commit.ensures.any_moment c.commit.ensures.faults g.met.D.Device.counts_now (Other record {}) (
              refl,
              subst (λ (l : LineLog g.row.D.Denot). g.D.Device.faults l.device < g.D.Device.faults c.commit.new.self.log.device) same
                  (c.in-Err-Failed.ensures.failed (ap Err c.in-Err-Failed.field-0-is)),
            ),
      ),
    )

pub returns : goal.returns
returns g c = record {
  free = refl;
  unspent = (refl, refl);
  ok = tt;
  err = λ first is.
      let w = c.in-Ok.ensures.ok first is in (
        w.more,
        w.takes,
        (
          [],
          Appends-nil _,
          turn_lost g.M.Machine.answers g.D.Device.seen g.D.Device.may_leave g.D.Device.moment g.D.Device.left_since g.D.Device.faults c.args.kept.now
              c.answer_turn.new.kept c.commit.new.self first c.args.buffer.now c.answer_turn.new.buffer _ _ c.in-Ok.count c.answer_turn.ensures.log w
              c.commit.ensures.any_moment c.commit.ensures.faults g.met.D.Device.counts_now NoMemory refl,
        ),
      );
  rests = tt;
  failed = λ e. absurd cc;
}

use Rattle.std.proofs.lemmas.Result.{on_ok_weaker}
use Rattle.wb_kept_seats.proofs.Files.{has_more}
use Rattle.wb_kept_seats.proofs.file.FileStoreChangesAppendErr.add.Goals as goal

pub returns-clause-kept : goal.returns-clause-kept
returns-clause-kept g c before has =
    on_ok_weaker c.add.result (λ now. has_more g.D.Device.seen g.D.Device.may_leave g.D.Device.moment g.D.Device.left_since g.L.KeptOpening.lines g.L.KeptOpening.begun
    c.args.self.now.journal.log c.add.new.self.log before c.args.turns.now has (c.add.ensures.any_moment before (has.settled, has.lines_are)) now) (c.add.ensures.kept before (has.settled, has.lines_are))

pub returns-clause-any_moment : goal.returns-clause-any_moment
returns-clause-any_moment g c before has = c.add.ensures.any_moment before (has.settled, has.lines_are)

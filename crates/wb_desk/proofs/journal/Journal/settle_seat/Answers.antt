use Rattle.std.proofs.Common.{◌≡◌, ◌≤◌, length, arith, refl, rules}
use Rattle.wb_desk.proofs.Courses.{differs_beyond}
use Rattle.wb_desk.proofs.journal.Journal.settle_seat.Goals as goal

pub returns-then-seat-len-clause-err : goal.returns-then-seat-len-clause-err
returns-then-seat-len-clause-err c =
    let beyond : length c.self.inside.lists.items ≤ c.args.seat = omega (arith, c.len.ensures, c.if-seat-len.true) in
    (rw (← c.self.view_is) (differs_beyond c.self.inside.lists.items c.args.seat c.args.own.now beyond (omega (arith, c.len-then-seat-len.ensures, c.if-len-eq0.false))), refl, refl)

use Rattle.wb_footprints.proofs.Gone.{place_clear}
use Rattle.wb_footprints.proofs.marks.place_marks.PlaceMarks.is_clear.Goals as goal

pub returns : goal.returns
returns c = λ yes.
    let clear = rw (c.name.ensures, c.kind.ensures) at c.is_clear.ensures in
    place_clear c.args.self.now c.args.number c.args.row.now (clear yes)

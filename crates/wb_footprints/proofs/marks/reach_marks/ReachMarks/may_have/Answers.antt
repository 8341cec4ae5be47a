use Rattle.std.proofs.Common.{sym, ◌∙◌}
use Rattle.std.specs.Ordering.{nat_cmp}
use Rattle.wb_footprints.specs.Marks.{marked}
use Rattle.wb_footprints.proofs.InReach.{homeless, none_behind}
use Rattle.wb_footprints.proofs.marks.reach_marks.ReachMarks.may_have.Goals as goal

pub returns : goal.returns
returns c = λ no.
    let marks = c.args.self.now in
    homeless marks.reach marks.homes c.args.number
    (none_behind (marked nat_cmp marks.homes c.args.number) 0 c.least_after.result (sym c.is_some.ensures ∙ no) c.least_after.ensures)
    marks.groups.entries marks.kept

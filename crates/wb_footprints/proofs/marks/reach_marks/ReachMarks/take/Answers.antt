use Rattle.wb_footprints.specs.Groups.{in_groups}
use Rattle.wb_footprints.proofs.InReach.{emptied, gone_all, homeless}
use Rattle.wb_footprints.proofs.marks.reach_marks.ReachMarks.take.Goals as goal

pub returns : goal.returns
returns c =
    let marks = c.loop-key.self in
    emptied (in_groups c.args.self.now.groups.entries) (in_groups marks.groups.entries) c.args.number c.loop-key.invariant.others
    (homeless marks.reach marks.homes c.args.number (gone_all marks.homes c.args.number c.loop-key.from c.in_default.ensures c.loop-key.invariant.gone)
    marks.groups.entries marks.kept)

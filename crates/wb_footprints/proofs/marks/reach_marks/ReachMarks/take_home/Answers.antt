use Rattle.wb_footprints.specs.Groups.{is_kept}
use Rattle.wb_footprints.proofs.InGroups.{all_more, cut}
use Rattle.wb_footprints.proofs.InReach.{home_less}
use Rattle.wb_footprints.proofs.marks.reach_marks.ReachMarks.take_home.Goals as goal

pub invariant_of-self : goal.invariant_of-self
invariant_of-self c =
    let marks = c.args.self.now in
    let key = c.args.key in
    let number = c.args.number in
    record {
      kept = all_more (cut (is_kept marks.reach marks.homes) key number) (is_kept marks.reach c.take.new.self)
          (home_less marks.reach marks.homes c.take.new.self number key c.take.ensures) c.take_from.new.groups.entries
          (c.take_from.ensures.all (is_kept marks.reach marks.homes) marks.kept);
    }

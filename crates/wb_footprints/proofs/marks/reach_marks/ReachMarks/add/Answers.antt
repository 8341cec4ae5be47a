use Rattle.std.proofs.Common.{ℕ, sym, subst}
use Rattle.wb_footprints.specs.declared.marks.key_marks.Marks.{Marks}
use Rattle.wb_footprints.specs.Groups.{is_kept, AreAll}
use Rattle.wb_footprints.proofs.InGroups.{all_more}
use Rattle.wb_footprints.proofs.InReach.{home_more, home_new, kept_by}
use Rattle.wb_footprints.proofs.marks.reach_marks.ReachMarks.add.Goals as goal

pub invariant_of-self : goal.invariant_of-self
invariant_of-self c =
    let marks = c.args.self.now in
    let key = c.args.key in
    let number = c.args.block.number in
    let homes = c.add.new.self in
    record {
      kept = c.add_to.ensures.all (is_kept marks.reach homes)
          (all_more (is_kept marks.reach marks.homes) (is_kept marks.reach homes) (home_more marks.reach marks.homes homes number key c.in-Ok.ensures.ok)
          marks.groups.entries marks.kept)
          (λ p there.
          let within = c.requires.within p there in
          kept_by marks.reach homes key p number within.0 within.1 c.requires.first (home_new marks.homes homes number key c.in-Ok.ensures.ok));
    }

pub invariant_of-self-in-Err : goal.invariant_of-self-in-Err
invariant_of-self-in-Err c =
    let marks = c.args.self.now in
    record { kept = subst (λ (h : Marks ℕ). AreAll (is_kept marks.reach h) marks.groups.entries) (sym c.in-Err.ensures.err) marks.kept }

use Rattle.std.specs.List.{list_any}
use Rattle.wb_footprints.specs.Groups.{in_groups}
use Rattle.wb_footprints.proofs.InReach.{IsLeastSoFar, any_asked}
use Rattle.wb_footprints.proofs.marks.reach_marks.ReachMarks.least_in.Given as goal

abbrev pub invariant-loop-blocks : goal.invariant-loop-blocks
invariant-loop-blocks l = IsLeastSoFar l.first (any_asked l.indices l.blocks-iterator)
    (λ n. list_any (λ p. in_groups l.self.groups.entries p n) l.indices) l.after

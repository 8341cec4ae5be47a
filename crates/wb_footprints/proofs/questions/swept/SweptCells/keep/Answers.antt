use Rattle.std.proofs.Common.{refl}
use Rattle.wb_footprints.proofs.Through.{kept_more}
use Rattle.wb_footprints.proofs.questions.swept.SweptCells.keep.Goals as goal
use Rattle.wb_footprints.proofs.questions.swept.SweptCells.keep.Goals.{in-Ok, in-Err}

pub returns : goal.returns
returns c = elim c.match-push.branch [
  | in-Ok w ↦
      rw w.result-is
      (λ index waiting after h waits. kept_more index c.args.self.now (record c.args.self.now { runs = c.push.new.self }) waiting after c.args.run h waits refl refl
      w.in-Ok.ensures.items)
  | in-Err w ↦ rw w.result-is tt
]

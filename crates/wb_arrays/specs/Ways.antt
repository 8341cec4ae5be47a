-- What a mover's way says.
use Rattle.wb_arrays.specs.declared.mover.Way.{Way}
use Rattle.wb_arrays.specs.declared.mover.Way.TheVariants.{Here, Team, NoThread}

-- P holds where there is no thread
abbrev pub OnNoThread : {A B : Type 0} → Way A B → Type 0 → Type 0
OnNoThread Here P = Unit {0}
OnNoThread (Team t) P = Unit {0}
OnNoThread NoThread P = P

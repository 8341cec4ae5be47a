use Rattle.std.proofs.Common.{◌≡◌, ◌<◌, ℕ, List, ◌++◌, take, drop}
use Rattle.wb_connections.specs.Door.{through}
use Rattle.wb_connections.specs.declared.door.Way.TheVariants.{Shut}
use Rattle.wb_connections.proofs.door.let_through.Given as goal

-- the bytes so far went through, and the door is shut only behind one of them, and was not read since
abbrev pub invariant-loop-place : goal.invariant-loop-place
invariant-loop-place l = ((rest : List ℕ) → through l.fn.way (l.bytes ++ rest) ≡ take l.place l.bytes ++ through l.now (drop l.place l.bytes ++ rest))
    × ((past : ℕ) → l.now ≡ Shut past → (0 < l.place) × (past ≡ 0))

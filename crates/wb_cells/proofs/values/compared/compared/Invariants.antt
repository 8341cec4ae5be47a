use Rattle.std.proofs.Common.{◌≡◌, drop}
use Rattle.std.specs.Cmp.Lexicographic.{slice_cmp}
use Rattle.wb_cells.proofs.values.compared.compared.Given as goal

abbrev pub invariant-loop-i : goal.invariant-loop-i
invariant-loop-i g l = slice_cmp g.T.Ord.cmp l.a l.b ≡ slice_cmp g.T.Ord.cmp (drop l.i l.a) (drop l.i l.b)

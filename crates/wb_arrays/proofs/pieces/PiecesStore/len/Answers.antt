use Rattle.wb_arrays.specs.Pieces.{lists_of}
use Rattle.wb_arrays.proofs.Splits.{merged-ascending}
use Rattle.wb_arrays.proofs.pieces.PiecesStore.len.Goals as goal

pub returns-clause-ascending : goal.returns-clause-ascending
returns-clause-ascending g c = rw (← c.self.view_is) (merged-ascending g.D.Index.Ord.cmp g.met.D.Index.Ord.total (lists_of c.self.inside.pieces.items))

use Rattle.std.proofs.Common.{drop}
use Rattle.wb_arrays.specs.Pieces.{lists_of}
use Rattle.wb_arrays.proofs.Parts.{IsUnderway}
use Rattle.wb_arrays.proofs.part.distributed.Given as goal

abbrev pub invariant-loop-index : goal.invariant-loop-index
invariant-loop-index g l =
    let locale = g.M.Mapping.locale l.mapping in
    IsUnderway locale (g.M.Mapping.locale_count l.mapping) l.first l.count l.pairs (drop l.index-index l.pairs) (lists_of l.pieces.items)

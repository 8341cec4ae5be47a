use Rattle.std.proofs.Common.{length, refl}
use Rattle.wb_arrays.specs.Pieces.{lists_of}
use Rattle.wb_arrays.proofs.Splits.{is_split}
use Rattle.wb_arrays.proofs.pieces.Pieces.from_lists.Goals as goal

pub invariant_of-result : goal.invariant_of-result
invariant_of-result g c =
    (is_split g.D.Index.Ord.cmp g.met.D.Index.Ord.total g.met.D.Index.Key.exact (g.M.Mapping.locale c.args.mapping.now)
    (g.M.Mapping.locale_count c.args.mapping.now) (length c.args.pairs.now) (lists_of c.args.pieces.items) c.args.pairs.now c.requires.ascending
    c.requires.below c.requires.are_pieces refl).1

pub returns : goal.returns
returns g c =
    let same = (is_split g.D.Index.Ord.cmp g.met.D.Index.Ord.total g.met.D.Index.Key.exact (g.M.Mapping.locale c.args.mapping.now)
    (g.M.Mapping.locale_count c.args.mapping.now) (length c.args.pairs.now) (lists_of c.args.pieces.items) c.args.pairs.now c.requires.ascending
    c.requires.below c.requires.are_pieces refl).0 in
    λ i. (same i, c.args.mapping.now)

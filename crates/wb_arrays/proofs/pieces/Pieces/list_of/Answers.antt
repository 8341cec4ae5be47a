use Rattle.std.proofs.Common.{◌<◌, arith}
use Rattle.wb_arrays.specs.Pieces.{lists_of, merged}
use Rattle.wb_arrays.proofs.Splits.{piece_at, piece_count, piece-ascending, merged-ascending}
use Rattle.wb_arrays.proofs.Parts.{length-lists_of}
use Rattle.wb_arrays.proofs.pieces.Pieces.list_of.Goals as goal

pub list_at-requires : goal.list_at-requires
list_at-requires g c =
    let p = c.self.inside in
    let required : c.args.locale < g.M.Mapping.locale_count p.mapping = rw (← c.self.view_is) at c.requires in
    let many = piece_count g.D.Index.Ord.cmp (g.M.Mapping.locale p.mapping) (g.M.Mapping.locale_count p.mapping) p.size (lists_of p.pieces.items)
    c.self.invariant in
    rw c.as_slice.ensures.value (omega (arith, required, many, length-lists_of p.pieces.items))

pub returns-clause-value : goal.returns-clause-value
returns-clause-value g c =
    let p = c.self.inside in
    let required : c.args.locale < g.M.Mapping.locale_count p.mapping = rw (← c.self.view_is) at c.requires in
    let many = piece_count g.D.Index.Ord.cmp (g.M.Mapping.locale p.mapping) (g.M.Mapping.locale_count p.mapping) p.size (lists_of p.pieces.items)
    c.self.invariant in
    rw (← c.self.view_is, c.list_at.ensures, c.as_slice.ensures.value)
    (piece_at g.D.Index.Ord.cmp (g.M.Mapping.locale p.mapping) (g.M.Mapping.locale_count p.mapping) p.size (lists_of p.pieces.items) c.args.locale
    c.self.invariant (omega (arith, required, many))).1

pub returns-clause-ascending : goal.returns-clause-ascending
returns-clause-ascending g c =
    let p = c.self.inside in
    let required : c.args.locale < g.M.Mapping.locale_count p.mapping = rw (← c.self.view_is) at c.requires in
    let many = piece_count g.D.Index.Ord.cmp (g.M.Mapping.locale p.mapping) (g.M.Mapping.locale_count p.mapping) p.size (lists_of p.pieces.items)
    c.self.invariant in
    let is = (piece_at g.D.Index.Ord.cmp (g.M.Mapping.locale p.mapping) (g.M.Mapping.locale_count p.mapping) p.size (lists_of p.pieces.items) c.args.locale
    c.self.invariant (omega (arith, required, many))).1 in
    rw (c.list_at.ensures, c.as_slice.ensures.value, is) (piece-ascending g.D.Index.Ord.cmp (g.M.Mapping.locale p.mapping)
    (merged g.D.Index.Ord.cmp (lists_of p.pieces.items)) c.args.locale
    (merged-ascending g.D.Index.Ord.cmp g.met.D.Index.Ord.total (lists_of p.pieces.items)))

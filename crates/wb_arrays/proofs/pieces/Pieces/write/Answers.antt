use Rattle.std.proofs.Common.{◌<◌, ◌≡◌, length, get_or, arith, sym, ap, ◌∙◌, rules, to_z, of_z, w64}
use Rattle.wb_arrays.specs.Elements.{value_at}
use Rattle.wb_arrays.specs.Pieces.{lists_of, piece_of, merged}
use Rattle.wb_arrays.proofs.Splits.{piece_at, piece_count}
use Rattle.wb_arrays.proofs.Parts.{length-lists_of}
use Rattle.wb_arrays.proofs.PiecePlaces.{value_found}
use Rattle.wb_arrays.proofs.Writes.{written_split, value_at-own}
use Rattle.wb_arrays.proofs.pieces.Pieces.write.Goals as goal

pub write_at-requires-clause-locale : goal.write_at-requires-clause-locale
write_at-requires-clause-locale g c =
    let p = c.self.inside in
    let required : c.args.locale < g.M.Mapping.locale_count p.mapping = rw (← c.self.view_is) at c.requires.locale.0 in
    let many = piece_count g.D.Index.Ord.cmp (g.M.Mapping.locale p.mapping) (g.M.Mapping.locale_count p.mapping) p.size (lists_of p.pieces.items)
    c.self.invariant in
    omega (arith, required, many, length-lists_of p.pieces.items)

pub write_at-requires-clause-place : goal.write_at-requires-clause-place
write_at-requires-clause-place g c =
    let p = c.self.inside in
    let required : c.args.locale < g.M.Mapping.locale_count p.mapping = rw (← c.self.view_is) at c.requires.locale.0 in
    let many = piece_count g.D.Index.Ord.cmp (g.M.Mapping.locale p.mapping) (g.M.Mapping.locale_count p.mapping) p.size (lists_of p.pieces.items)
    c.self.invariant in
    let is = (piece_at g.D.Index.Ord.cmp (g.M.Mapping.locale p.mapping) (g.M.Mapping.locale_count p.mapping) p.size (lists_of p.pieces.items) c.args.locale
    c.self.invariant (omega (arith, required, many))).1 in
    rw is (rw (← c.self.view_is) at c.requires.place)

pub invariant_of-self : goal.invariant_of-self
invariant_of-self g c =
    let p = c.self.inside in
    let required : c.args.locale < g.M.Mapping.locale_count p.mapping = rw (← c.self.view_is) at c.requires.locale.0 in
    let own : c.args.locale ≡ g.M.Mapping.locale p.mapping c.args.pair.0 = rw (← c.self.view_is) at c.requires.locale.1 in
    let place : c.args.place < length (piece_of (g.M.Mapping.locale p.mapping) (merged g.D.Index.Ord.cmp (lists_of p.pieces.items)) c.args.locale) =
    rw (← c.self.view_is) at c.requires.place in
    (written_split g.D.Index.Ord.cmp g.met.D.Index.Key.exact (g.M.Mapping.locale p.mapping) c.args.pair.0 c.args.pair.1 g.met.D.Index.Ord.total
    (g.M.Mapping.locale_count p.mapping) p.size c.args.locale c.args.place (lists_of p.pieces.items) (lists_of c.write_at.new.pieces.items)
    c.self.invariant required own place (rw (← c.self.view_is) at c.requires.index) c.write_at.ensures).1

pub returns-clause-elements : goal.returns-clause-elements
returns-clause-elements g c =
    let p = c.self.inside in
    let required : c.args.locale < g.M.Mapping.locale_count p.mapping = rw (← c.self.view_is) at c.requires.locale.0 in
    let own : c.args.locale ≡ g.M.Mapping.locale p.mapping c.args.pair.0 = rw (← c.self.view_is) at c.requires.locale.1 in
    let place : c.args.place < length (piece_of (g.M.Mapping.locale p.mapping) (merged g.D.Index.Ord.cmp (lists_of p.pieces.items)) c.args.locale) =
    rw (← c.self.view_is) at c.requires.place in
    let same = (written_split g.D.Index.Ord.cmp g.met.D.Index.Key.exact (g.M.Mapping.locale p.mapping) c.args.pair.0 c.args.pair.1 g.met.D.Index.Ord.total
    (g.M.Mapping.locale_count p.mapping) p.size c.args.locale c.args.place (lists_of p.pieces.items) (lists_of c.write_at.new.pieces.items)
    c.self.invariant required own place (rw (← c.self.view_is) at c.requires.index) c.write_at.ensures).0 in
    rw (← c.self.view_is) (λ i. (same i, p.mapping))

pub returns-clause-old : goal.returns-clause-old
returns-clause-old g c =
    let cmp = g.D.Index.Ord.cmp in
    let es = c.args.self.now.0 in
    let locale = g.M.Mapping.locale c.args.self.now.1 in
    let piece = piece_of locale es c.args.locale in
    let d = c.index-list_of-place.result in
    let pairs = c.list_of.result.now in
    let exact : to_z w64 (of_z w64 (get_or pairs c.args.place d).1) ≡ (get_or pairs c.args.place d).1 = search rules in
    let ascending = c.list_of.ensures.ascending in
    let is = c.list_of.ensures.value in
    let found = value_found cmp g.met.D.Index.Ord.total g.met.D.Index.Key.exact pairs c.args.place c.args.pair.0 d ascending (rw is c.requires.place)
    (rw is c.requires.index) in
    let own = sym (value_at-own cmp g.met.D.Index.Key.exact locale es c.args.pair.0) ∙
    ap (λ k. value_at cmp (piece_of locale es k) c.args.pair.0) (sym c.requires.locale.1) in
    rw exact (own ∙ ap (λ xs. value_at cmp xs c.args.pair.0) (sym is) ∙ found)

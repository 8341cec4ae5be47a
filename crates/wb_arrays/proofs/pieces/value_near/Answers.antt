use Rattle.std.proofs.Common.{◌≡◌, sym, rules, get_or, to_z, of_z, w64}
use Rattle.wb_arrays.proofs.PiecePlaces.{value_found}
use Rattle.wb_arrays.proofs.pieces.value_near.Goals as goal

pub returns-in-Some : goal.returns-in-Some
returns-in-Some g c =
    let pairs = c.args.pairs.now in
    let place = c.in-Some.place in
    let d = c.index-pairs-place.result in
    let exact : to_z w64 (of_z w64 (get_or pairs place d).1) ≡ (get_or pairs place d).1 = search rules in
    rw exact (sym (value_found g.I.Ord.cmp g.met.I.Ord.total g.met.I.Key.exact pairs place c.args.index d c.requires c.in-Some.ensures.found.0
    c.in-Some.ensures.found.1))

use Rattle.std.proofs.Common.{◌∙◌}
use Rattle.std.specs.List.{flat_map}
use Rattle.std.specs.BTreeMap.{IsFromIterResult}
use Rattle.wb_arrays.specs.Pieces.{lists_of}
use Rattle.wb_arrays.proofs.Splits.{collected_is}
use Rattle.wb_arrays.proofs.pieces.Pieces.gather.Goals as goal

pub returns : goal.returns
returns g c =
    let p = c.self.inside in
    let cmp = g.D.Index.Ord.cmp in
    let ps = lists_of p.pieces.items in
    let map = c.in_ok-map.map in
    let made : IsFromIterResult cmp (flat_map (λ x. x) ps) map = rw c.as_slice.ensures.value at c.in_ok-map.ensures in
    let all = collected_is cmp g.met.D.Index.Ord.total g.met.D.Index.Key.exact (g.M.Mapping.locale p.mapping) (g.M.Mapping.locale_count p.mapping) p.size ps map
    c.self.invariant made in
    rw (← c.self.view_is) (c.from_map.ensures ∙ all)

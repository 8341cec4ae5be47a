use Rattle.std.proofs.Common.{rules, ℤ, Option, w64, sym, ap, ◌∙◌}
use Rattle.std.specs.Map.{set_value}
use Rattle.std.specs.BTreeMap.{is_at}
use Rattle.std.proofs.lemmas.Int.{to_z-of_z}
use Rattle.wb_elements.specs.Entries.{with_one}
use Rattle.wb_elements.specs.Piecewise.Indexed.{indexed}
use Rattle.wb_elements.proofs.Piecewise.Indexed.{set_value-indexed, all_of-set_value}
use Rattle.wb_elements.proofs.elements.typed.set_near.Goals as goal

pub returns-in-Some-clause-elements : goal.returns-in-Some-clause-elements
returns-in-Some-clause-elements g c =
    let f = g.D.Index.AsIndex.as_index in
    let k = c.args.change.now.0 in
    let v : ℤ = c.in-Some.value in
    let es = c.args.pieces.now.0 in
    ap (indexed f) (c.set_near.ensures.elements ∙ ap (λ (w : ℤ). set_value (is_at (g.D.Index.Ord.cmp k)) es w) (to_z-of_z w64 v (search rules)))
    ∙ set_value-indexed g.D.Index.Ord.cmp f g.D.Index.AsIndex.is_of g.met.D.Index.AsIndex.alike es k v
    ∙ ap (λ (o : Option ℤ). with_one (indexed f es) (f k) o) (sym c.in-Some.is)

pub returns-in-Some-clause-kept : goal.returns-in-Some-clause-kept
returns-in-Some-clause-kept g c =
    rw c.set_near.ensures.elements (all_of-set_value g.D.Index.Ord.cmp g.D.Index.AsIndex.as_index g.D.Index.AsIndex.is_of
    (is_at (g.D.Index.Ord.cmp c.args.change.now.0)) c.args.pieces.now.0 _ c.requires)

use Rattle.std.proofs.Common.{◌≡◌, List, length, map, sym, ap, ◌∙◌, arith}
use Rattle.std.specs.BTreeMap.{is_at}
use Rattle.std.specs.BTreeSet.{BTreeSet, IsFromIterResult}
use Rattle.std.specs.List.{list_any}
use Rattle.std.specs.declared.cmp.Ordering.{Ordering}
use Rattle.std.proofs.lemmas.Iterator.{items_from_drains}
use Rattle.std.proofs.lemmas.Iterator.Adapters.{YieldsList-from_vec}
use Rattle.std.proofs.lemmas.List.{map-id}
use Rattle.wb_cells.specs.declared.values.index.Index.{Index}
use Rattle.wb_cells.specs.Cells.{index_cmp}
use Rattle.wb_cells.specs.WellFormed.{has}
use Rattle.wb_cells.proofs.SameKeys.{same_has, all_among}
use Rattle.wb_cells.proofs.book.key_runs.set_of.Goals as goal

made : {K : Type 0} (cmp : K → K → Ordering) (f : K → Index) → ((x y : K) → index_cmp (f x) (f y) ≡ cmp x y) → (set : BTreeSet K) (xs ks : List K) → xs ≡ ks →
    IsFromIterResult cmp xs set → (j : Index) → has (map f set.keys) j ≡ has (map f ks) j
made {K} cmp f alike set xs ks same came j =
    same_has cmp f alike set.keys ks (λ q. came.0 q ∙ ap (λ (ys : List K). list_any (is_at (cmp q)) ys) same) j

pub returns-in-Ok-clause-same : goal.returns-in-Ok-clause-same
returns-in-Ok-clause-same g c = λ j.
    let r = c.in-Ok.ensures.ran in
    let ks = c.args.keys.items in
    let long : r.0.rest.len ≡ length ks = omega (arith, r.2.1, c.args.keys.ok.0) in
    let xs_are : r.1 ≡ ks = sym (map-id r.1) ∙ items_from_drains r.1 r.3 (YieldsList-from_vec ks r.2.0 long) in
    made g.K.Ord.cmp g.K.AsIndex.as_index g.met.K.AsIndex.alike c.in-Ok.set r.1 ks xs_are r.4 j

pub returns-in-Ok-clause-kept : goal.returns-in-Ok-clause-kept
returns-in-Ok-clause-kept g c =
    let r = c.in-Ok.ensures.ran in
    let ks = c.args.keys.items in
    let f = g.K.AsIndex.as_index in
    let long : r.0.rest.len ≡ length ks = omega (arith, r.2.1, c.args.keys.ok.0) in
    let xs_are : r.1 ≡ ks = sym (map-id r.1) ∙ items_from_drains r.1 r.3 (YieldsList-from_vec ks r.2.0 long) in
    all_among g.K.AsIndex.is_of (map f ks) (map f c.in-Ok.set.keys)
    (λ j h. sym (made g.K.Ord.cmp f g.met.K.AsIndex.alike c.in-Ok.set r.1 ks xs_are r.4 j) ∙ h) c.requires

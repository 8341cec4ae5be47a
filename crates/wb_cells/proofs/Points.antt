-- Points as indices: each point is one index.
use Rattle.std.proofs.Common.{◌≡◌, ℤ, List, map, Option, Some, None, option_map, slice_get, refl, sym, ap, ◌∙◌}
use Rattle.selective_undo.proofs.Log.{get-map}
use Rattle.wb_range.specs.Domain.{IsListedOnce}
use Rattle.wb_cells.specs.declared.values.index.Index.{Index}
use Rattle.wb_cells.specs.declared.values.index.Index.TheVariants.{Point}

pub point_there : (o : Option (List ℤ)) (i : Index) → option_map Point o ≡ Some i → (x : List ℤ) × (o ≡ Some x) × (Point x ≡ i)
point_there None i e = cc
point_there (Some x) i e = let h : Point x ≡ i = cc in (x, refl, h)

pub once_points : (xs : List (List ℤ)) → IsListedOnce xs → IsListedOnce (map Point xs)
once_points xs once p q i e f =
    let a = point_there (slice_get xs p) i (sym (get-map Point xs p) ∙ e) in
    let b = point_there (slice_get xs q) i (sym (get-map Point xs q) ∙ f) in
    let same : b.0 ≡ a.0 = cc in
    once p q a.0 a.1 (b.1 ∙ ap Some same)

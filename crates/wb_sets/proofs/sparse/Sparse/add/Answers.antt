use Rattle.std.proofs.Common.{◌≡◌, ◌⊎◌, inl, inr, ℤ, List, sym, subst}
use Rattle.std.specs.List.{Contains}
use Rattle.wb_rect.specs.Product.{product}
use Rattle.wb_sets.specs.Subset.{AreInside}
use Rattle.wb_sets.proofs.sparse.Sparse.add.Goals as goal
use Rattle.wb_sets.proofs.sparse.Sparse.add.Goals.{in-Ok, in-Err}

one_more : (xs ys ranges : List (List ℤ)) (index : List ℤ) → AreInside xs ranges → Contains (product ranges) index →
    ((i : List ℤ) → Contains ys i → Contains xs i ⊎ (i ≡ index)) → AreInside ys ranges
one_more xs ys ranges index h m f i n = by (f i n)
  where
    by : Contains xs i ⊎ (i ≡ index) → Contains (product ranges) i
    by (inl a) = h i a
    by (inr e) = subst (λ (j : List ℤ). Contains (product ranges) j) (sym e) m

pub invariant_of-self : goal.invariant_of-self
invariant_of-self g c =
    let m : Contains (product c.self.inside.parent) c.args.index = c.contains.ensures.0 c.if-not-contains.false in
    elim c.match-add.branch [
      | in-Ok w ↦ one_more c.self.inside.indices c.add.new.self c.self.inside.parent c.args.index c.self.invariant m (λ i. (w.in-Ok.ensures.members i).0)
      | in-Err w ↦ rw w.in-Err.ensures.err c.self.invariant
    ]

pub returns-clause-members : goal.returns-clause-members
returns-clause-members g c = elim c.match-add.branch [
  | in-Ok w ↦ rw (w.result-is, ← c.self.view_is) w.in-Ok.ensures.members
  | in-Err w ↦ rw w.result-is tt
]

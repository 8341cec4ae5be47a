use Rattle.std.proofs.Common.{◌≡◌, ℤ, Bool, true, false, true≢false, Option, Some, None, IsSome, refl, sym, ap, ◌∙◌}
use Rattle.wb_arrays.specs.Elements.{value_at}
use Rattle.wb_cells.specs.declared.values.index.Index.{Index}
use Rattle.wb_cells.specs.Cells.{index_cmp}
use Rattle.wb_elements.specs.Piecewise.Changed.{changed_at}
use Rattle.wb_elements.specs.Piecewise.Indexed.{indexed, AllOf}
use Rattle.wb_elements.proofs.Piecewise.Indexed.{value_at-none}
use Rattle.wb_elements.proofs.Piecewise.Marked.{numbers-at, numbers-kept, numbers-ascending}
use Rattle.wb_elements.proofs.made.changed_pairs.Goals as goal

nothing_there : (o : Option ℤ) → (IsSome o → false ≡ true) → None ≡ o
nothing_there None never = refl
nothing_there (Some z) never = absurd (true≢false (sym (never refl)))

-- of the form as it was shown, and of another form there is none
of_each : (is_of : Index → Bool) (i : Index) (was is : Option ℤ) (t : Bool) → is_of i ≡ t → (IsSome is → is_of i ≡ true) →
    (is_of i ≡ true → was ≡ is) → (is_of i ≡ false → was ≡ None) → was ≡ is
of_each is_of i was is true e formed here apart = here e
of_each is_of i was is false e formed here apart = apart e ∙ nothing_there is (λ there. sym e ∙ formed there)

pub returns-clause-kept : goal.returns-clause-kept
returns-clause-kept g c =
    rw c.in_ok-pairs.ensures (numbers-kept g.I.Ord.cmp g.I.AsIndex.as_index g.met.I.AsIndex.alike g.met.I.Key.exact c.in_ok-marks.marks.items c.in-Ok.last
    c.in-Ok.ensures g.met.I.Ord.total g.I.AsIndex.is_of c.in_ok-marks.ensures.kept)

pub returns-clause-elements : goal.returns-clause-elements
returns-clause-elements g c = λ i.
    let f = g.I.AsIndex.as_index in
    let is_of = g.I.AsIndex.is_of in
    let kept : AllOf f is_of c.in_ok-pairs.pairs.items = returns-clause-kept g c in
    of_each is_of i (value_at index_cmp (indexed f c.in_ok-pairs.pairs.items) i)
    (changed_at c.args.changes.now (value_at index_cmp c.args.old.now i) i) (is_of i) refl
    (c.requires.formed i)
    (λ here.
    ap (λ es. value_at index_cmp (indexed f es) i) c.in_ok-pairs.ensures
    ∙ numbers-at g.I.Ord.cmp f g.met.I.AsIndex.alike g.met.I.Key.exact c.in_ok-marks.marks.items c.in-Ok.last c.in-Ok.ensures i
    ∙ c.in_ok-marks.ensures.elements i here)
    (λ apart. value_at-none g.I.Ord.cmp f is_of c.in_ok-pairs.pairs.items i kept apart)

pub returns-clause-ascending : goal.returns-clause-ascending
returns-clause-ascending g c =
    rw c.in_ok-pairs.ensures (numbers-ascending g.I.Ord.cmp g.I.AsIndex.as_index g.met.I.AsIndex.alike c.in-Ok.last.entries c.in-Ok.ensures.1)

use Rattle.std.proofs.Common.{rules, ◌≡◌, ℤ, Bool, true, false, true≢false, cond, Option, [], ◌∷◌, ◌++◌, refl, sym, ap, ◌∙◌}
use Rattle.wb_cells.specs.declared.values.index.Index.{Index}
use Rattle.wb_cells.specs.Cells.{is_same_index}
use Rattle.wb_elements.specs.Piecewise.Marked.{marked_at}
use Rattle.wb_elements.proofs.Piecewise.Changed.{one_index}
use Rattle.wb_elements.proofs.Piecewise.Marked.{marked-last, all_marked-last}
use Rattle.wb_elements.proofs.made.mark_one.Goals as goal

pub returns-in-Ok-clause-elements : goal.returns-in-Ok-clause-elements
returns-in-Ok-clause-elements g c = λ i here.
    let f = g.I.AsIndex.as_index in
    let ms = c.args.marks.now.items in
    let w : Option ℤ = c.args.value.now in
    let pushed : c.push.new.self.items ≡ ms ++ (c.in-Some.key, w) ∷ [] = search rules in
    ap (λ xs. marked_at f xs i) pushed
    ∙ marked-last f ms (c.in-Some.key, w) i
    ∙ ap (λ (j : Index). cond (is_same_index i j) w (marked_at f ms i)) c.in-Some.ensures.value

pub returns-in-Ok-clause-kept : goal.returns-in-Ok-clause-kept
returns-in-Ok-clause-kept g c =
    let f = g.I.AsIndex.as_index in
    let ms = c.args.marks.now.items in
    let w : Option ℤ = c.args.value.now in
    let pushed : c.push.new.self.items ≡ ms ++ (c.in-Some.key, w) ∷ [] = search rules in
    let here : g.I.AsIndex.is_of (f c.in-Some.key) ≡ true = ap g.I.AsIndex.is_of c.in-Some.ensures.value ∙ c.in-Some.ensures.formed in
    rw pushed (all_marked-last f g.I.AsIndex.is_of ms (c.in-Some.key, w) c.requires here)

-- an index of the form is not one of another form
apart : (is_of : Index → Bool) (x y : Index) (o w : Option ℤ) (t : Bool) → is_same_index x y ≡ t → is_of x ≡ true → is_of y ≡ false → o ≡ cond t w o
apart is_of x y o w true e here other = absurd (true≢false (sym here ∙ ap is_of (one_index x y e) ∙ other))
apart is_of x y o w false e here other = refl

pub returns-in-None-clause-elements : goal.returns-in-None-clause-elements
returns-in-None-clause-elements g c = λ i here.
    apart g.I.AsIndex.is_of i c.args.index.now (marked_at g.I.AsIndex.as_index c.args.marks.now.items i) c.args.value.now
    (is_same_index i c.args.index.now) refl here (c.in-None.ensures.none refl)

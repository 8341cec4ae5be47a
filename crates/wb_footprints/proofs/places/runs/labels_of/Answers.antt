use Rattle.std.proofs.Common.{◌<◌, ◌++◌, [], ◌∷◌, ℕ, List, length, map, sym, ap, ◌∙◌, arith}
use Rattle.std.proofs.lemmas.List.{length-map, take_all}
use Rattle.std.proofs.lemmas.Option.{get_or_from_slice_get}
use Rattle.wb_cells.specs.Runs.{labelled_at}
use Rattle.wb_footprints.proofs.Merging.{take_more}
use Rattle.wb_footprints.proofs.places.runs.labels_of.Goals as goal

pub text-requires : goal.text-requires
text-requires c =
    let l = c.args.changes.now in
    omega (arith, c.loop-at-test.true, c.len-at-end.ensures, length-map l.1 (labelled_at l.0))

pub loop-at-preserved : goal.loop-at-preserved
loop-at-preserved c =
    let l = c.args.changes.now in
    let ts = map (λ e. e.0) l.1 in
    let i = c.loop-at.at in
    let t = c.text.result.now in
    let low : i < length ts = omega (arith, c.loop-at-test.true, c.len-at-end.ensures, length-map l.1 (labelled_at l.0), length-map l.1 (λ e. e.0)) in
    c.in-Ok.ensures
    ∙ ap (λ (xs : List (List ℕ)). xs ++ t ∷ []) c.loop-at.invariant
    ∙ sym (take_more ts i t low (get_or_from_slice_get ts i t t c.text.ensures.text))

pub returns : goal.returns
returns c =
    let l = c.args.changes.now in
    c.loop-at.invariant ∙ take_all c.loop-at.at (map (λ e. e.0) l.1)
    (omega (arith, c.loop-at-test.false, c.len-at-end.ensures, length-map l.1 (labelled_at l.0), length-map l.1 (λ e. e.0)))

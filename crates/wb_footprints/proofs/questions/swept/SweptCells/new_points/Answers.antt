use Rattle.std.proofs.Common.{◌≡◌, ◌<◌, ◌≤◌, ◌||◌, ℤ, List, Bool, length, get_or, take, sym, ap, ◌∙◌, arith}
use Rattle.std.proofs.lemmas.List.{take_all}
use Rattle.std.proofs.lemmas.List.Folds.{list_any_more}
use Rattle.std.proofs.lemmas.Option.{get_or_from_slice_get}
use Rattle.std.specs.List.{list_any}
use Rattle.wb_cells.specs.declared.values.index.Index.TheVariants.{Point}
use Rattle.wb_footprints.proofs.questions.swept.SweptCells.new_points.Goals as goal

pub loop-at-init : goal.loop-at-init
loop-at-init c = λ f fails. ap (list_any (λ p. f (Point p))) c.new-points.ensures.items

pub loop-at-preserved : goal.loop-at-preserved
loop-at-preserved c = λ f fails.
    let all = c.args.all.now in
    let i = c.loop-at.at in
    let p = c.point.result in
    let g : List ℤ → Bool = λ q. f (Point q) in
    let low : i < length all = omega (arith, c.loop-at-test.true, c.len-at-end.ensures.value) in
    let is : p ≡ get_or all i p = sym (get_or_from_slice_get all i p p c.point.ensures) in
    c.in-Ok.ensures f fails
    ∙ ap (λ b. b || g p) (c.loop-at.invariant f fails)
    ∙ ap (λ q. list_any g (take i all) || g q) is
    ∙ sym (list_any_more g all i p low)

pub returns : goal.returns
returns c = λ f fails.
    let all = c.args.all.now in
    let g : List ℤ → Bool = λ q. f (Point q) in
    let high : length all ≤ c.loop-at.at = omega (arith, c.loop-at-test.false, c.len-at-end.ensures.value) in
    c.sorted.ensures g ∙ c.loop-at.invariant f fails ∙ ap (list_any g) (take_all c.loop-at.at all high)

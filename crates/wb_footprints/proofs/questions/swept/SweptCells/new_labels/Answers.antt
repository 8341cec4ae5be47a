use Rattle.std.proofs.Common.{◌≡◌, ◌<◌, ◌≤◌, ◌||◌, ℕ, List, Bool, length, get_or, take, sym, ap, ◌∙◌, arith}
use Rattle.std.proofs.lemmas.List.{take_all}
use Rattle.std.proofs.lemmas.List.Folds.{list_any_more}
use Rattle.std.proofs.lemmas.Option.{get_or_from_slice_get, IfSome_then}
use Rattle.std.specs.List.{list_any}
use Rattle.wb_cells.specs.declared.values.index.Index.TheVariants.{Text}
use Rattle.wb_footprints.proofs.questions.swept.SweptCells.new_labels.Goals as goal

pub loop-at-init : goal.loop-at-init
loop-at-init c = λ f fails. ap (list_any (λ t. f (Text t))) c.new-list.ensures

pub loop-at-preserved : goal.loop-at-preserved
loop-at-preserved c = λ f fails.
    let all = c.args.all.now in
    let i = c.loop-at.at in
    let t = c.label.result in
    let g : List ℕ → Bool = λ u. f (Text u) in
    let low : i < length all = omega (arith, c.loop-at-test.true, c.len-at-end.ensures.value) in
    let is : t ≡ get_or all i t = sym (get_or_from_slice_get all i t t c.label.ensures) in
    c.in-Ok.ensures f fails
    ∙ ap (λ b. b || g t) (c.loop-at.invariant f fails)
    ∙ ap (λ u. list_any g (take i all) || g u) is
    ∙ sym (list_any_more g all i t low)

pub returns : goal.returns
returns c = IfSome_then c.sorted.result c.sorted.ensures (λ ts h f fails.
    let all = c.args.all.now in
    let g : List ℕ → Bool = λ u. f (Text u) in
    let high : length all ≤ c.loop-at.at = omega (arith, c.loop-at-test.false, c.len-at-end.ensures.value) in
    h g ∙ c.loop-at.invariant f fails ∙ ap (list_any g) (take_all c.loop-at.at all high))

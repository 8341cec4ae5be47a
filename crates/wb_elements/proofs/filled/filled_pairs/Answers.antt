use Rattle.std.proofs.Common.{rules, ◌≡◌, ◌<◌, ◌∷◌, [], ◌++◌, length, take, Some, sym, ap, subst, ◌∙◌, arith}
use Rattle.std.specs.List.Sorted.{IsStrictlySortedBy}
use Rattle.std.specs.Map.{keys_of}
use Rattle.std.proofs.lemmas.List.{take_more, take_all}
use Rattle.wb_cells.specs.declared.values.index.Index.TheVariants.{Point}
use Rattle.wb_elements.specs.Piecewise.Changed.{all_set}
use Rattle.wb_elements.specs.Piecewise.Indexed.{indexed, AllOf}
use Rattle.wb_elements.specs.Piecewise.Marked.{as_changes}
use Rattle.wb_elements.proofs.Blocks.{many_changes, set_last, all_of-last}
use Rattle.wb_elements.proofs.Ascending.{ascending-nothing}
use Rattle.wb_elements.proofs.filled.filled_pairs.Goals as goal

pub goes_behind-requires : goal.goes_behind-requires
goes_behind-requires g c =
    subst (λ ys. IsStrictlySortedBy g.I.Ord.cmp (keys_of ys)) (sym c.deref.ensures.value) c.loop-at.invariant.ascending

pub loop-at-init : goal.loop-at-init
loop-at-init g c =
    let f = g.I.AsIndex.as_index in
    let none : c.in-Ok.pairs.items ≡ [] = (search rules) in
    record {
      elements = ap (λ ys. all_set (indexed f ys)) none;
      kept = subst (AllOf f g.I.AsIndex.is_of) (sym none) tt;
      ascending = subst (λ ys. IsStrictlySortedBy g.I.Ord.cmp (keys_of ys)) (sym none) (ascending-nothing g.I.Ord.cmp);
    }

pub loop-at-preserved : goal.loop-at-preserved
loop-at-preserved g c =
    let f = g.I.AsIndex.as_index in
    let ps = c.loop-at.pairs.items in
    let e = c.in-Some.pair in
    let k = c.loop-at.at in
    let xs = as_changes Point (g.B.ChangeBlock.entries c.args.block.now) in
    let old = c.loop-at.invariant in
    let pushed : c.push.new.self.items ≡ ps ++ e ∷ [] = (search rules) in
    let low : k < length xs = omega (arith, c.loop-at-test.true, c.many-count.ensures, many_changes (g.B.ChangeBlock.entries c.args.block.now)) in
    record {
      elements = ap (λ ys. all_set (indexed f ys)) pushed ∙ set_last f ps e ∙ ap (λ ys. ys ++ (f e.0, Some e.1) ∷ []) old.elements
          ∙ sym (take_more xs k (f e.0, Some e.1) low ∙ ap (λ y. take k xs ++ y ∷ []) (sym c.in-Some.ensures.value));
      kept = subst (AllOf f g.I.AsIndex.is_of) (sym pushed) (all_of-last f g.I.AsIndex.is_of ps e old.kept c.in-Some.ensures.formed);
      ascending = subst (λ ys. IsStrictlySortedBy g.I.Ord.cmp (keys_of ys)) (sym pushed)
          (subst (λ ys. IsStrictlySortedBy g.I.Ord.cmp (keys_of (ys ++ e ∷ []))) c.deref.ensures.value (c.goes_behind.ensures c.if-not-goes_behind.false));
    }

pub returns-clause-elements : goal.returns-clause-elements
returns-clause-elements g c =
    let xs = as_changes Point (g.B.ChangeBlock.entries c.args.block.now) in
    c.loop-at.invariant.elements
    ∙ take_all c.loop-at.at xs (omega (arith, c.loop-at-test.false, c.many-count.ensures, many_changes (g.B.ChangeBlock.entries c.args.block.now)))

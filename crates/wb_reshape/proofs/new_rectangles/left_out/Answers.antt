use Rattle.std.proofs.Common.{◌≡◌, List, take, subst, sym, ap, ◌∙◌, arith}
use Rattle.std.proofs.lemmas.List.{take_all}
use Rattle.wb_reshape.specs.Resized.{without}
use Rattle.wb_cells.specs.declared.values.index.Index.{Index}
use Rattle.wb_cells.specs.Shapes.{indices}
use Rattle.wb_range.specs.Domain.{IsListedOnce}
use Rattle.wb_reshape.proofs.Members.{none_within, without_more}
use Rattle.wb_reshape.proofs.Without.{IsListedOnce-without}
use Rattle.wb_reshape.proofs.new_rectangles.left_out.Goals as goal
use Rattle.wb_reshape.proofs.new_rectangles.left_out.Goals.{in-Some+in_ok-push_outside, in_default}

pub loop-p-preserved : goal.loop-p-preserved
loop-p-preserved c =
    elim c.match-nth.branch [
      | in-Some+in_ok-push_outside w ↦ let t = without_more (indices c.args.new.now) (indices c.args.old.now) c.loop-p.p w.in-Some.index w.in-Some.ensures in
          cc (w.left-is, w.in_ok-push_outside.ensures, c.loop-p.invariant)
      | in_default w ↦ absurd (none_within (indices c.args.old.now) c.loop-p.p (omega (arith, c.size-p-end.ensures.count)) w.in_default.ensures)
    ]

pub returns-clause-once : goal.returns-clause-once
returns-clause-once c =
    let old : List Index = indices c.args.old.now in
    let new : List Index = indices c.args.new.now in
    let whole : take c.loop-p.p old ≡ old = take_all c.loop-p.p old (omega (arith, c.size-p-end.ensures.count, c.loop-p-test.false)) in
    subst (λ (is : List Index). IsListedOnce is) (sym (c.loop-p.invariant ∙ ap (without new) whole)) (IsListedOnce-without new old c.size-p-end.ensures.once)

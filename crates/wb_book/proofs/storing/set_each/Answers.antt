use Rattle.std.proofs.Common.{◌≡◌, ◌<◌, IsSome, length, sym, ap, subst, ◌∙◌, arith, rules, tests}
use Rattle.std.specs.FinMap.{get}
use Rattle.selective_undo.specs.Changes.{apply, sets}
use Rattle.selective_undo.proofs.Changes.{apply_keeps}
use Rattle.wb_cells.specs.Cells.{Cells, Changes, cell_order, state_of}
use Rattle.wb_cells.specs.Runs.{changes_in}
use Rattle.wb_book.proofs.SetBack.{other_set}
use Rattle.wb_book.proofs.StoredRuns.{set_one_more, sets_stay}
use Rattle.wb_book.proofs.storing.set_each.Goals as goal

pub loop-at-preserved : goal.loop-at-preserved
loop-at-preserved c =
    let xs = changes_in c.args.run.now.form in
    let k = c.loop-at.at in
    let x = c.change.result in
    let low : k < length xs = omega (arith, c.loop-at-test.true, c.len-at-end.ensures) in
    let old = c.loop-at.invariant in
    record {
      set = set_one_more xs k x (state_of c.args.cells.now) (state_of c.loop-at.cells) (state_of c.set_one.new.cells) low c.change.ensures old.set
          c.in_ok-set_one.ensures.set;
      others = λ q e. c.set_one.ensures.others q (other_set xs k x q low c.change.ensures e) ∙ old.others q e;
      stays = λ q there. c.set_one.ensures.stays q (old.stays q there);
    }

pub returns-in_err-set_one-clause-others : goal.returns-in_err-set_one-clause-others
returns-in_err-set_one-clause-others c = λ q e.
    let xs = changes_in c.args.run.now.form in
    let low : c.loop-at.at < length xs = omega (arith, c.loop-at-test.true, c.len-at-end.ensures) in
    c.set_one.ensures.others q (other_set xs c.loop-at.at c.change.result q low c.change.ensures e) ∙ c.loop-at.invariant.others q e

pub returns-then-sets_nothing-clause-set : goal.returns-then-sets_nothing-clause-set
returns-then-sets_nothing-clause-set c =
    ap (λ (ys : Changes). apply ys (state_of c.args.cells.now))
    (sym (ap (λ f. sets (changes_in f)) (sym c.form.ensures) ∙ c.sets_nothing.ensures c.if-sets_nothing.true))

pub returns-then-branch-clause-others : goal.returns-then-branch-clause-others
returns-then-branch-clause-others c = λ q e.
    let xs = changes_in c.args.run.now.form in
    let old = state_of c.args.cells.now in
    let made : state_of c.set_whole.new.cells ≡ apply (sets xs) old = search (rules, tests) in
    ap (λ (t : Cells). get t q) made ∙ apply_keeps cell_order (sets xs) old q e

pub returns-then-branch-clause-stays : goal.returns-then-branch-clause-stays
returns-then-branch-clause-stays c = λ q there.
    let xs = changes_in c.args.run.now.form in
    let old = state_of c.args.cells.now in
    let made : state_of c.set_whole.new.cells ≡ apply (sets xs) old = search (rules, tests) in
    subst (λ (t : Cells). IsSome (get t q)) (sym made) (sets_stay xs old q there)

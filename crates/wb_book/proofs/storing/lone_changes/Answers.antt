use Rattle.std.proofs.Common.{◌≡◌, ◌||◌, [], ◌∷◌, ◌++◌, sym, ap, ◌∙◌, rules}
use Rattle.std.specs.Ordering.{eq_by_cmp}
use Rattle.selective_undo.specs.Changes.{changes}
use Rattle.wb_cells.specs.declared.cells.cell.Cell.TheVariants.{Object}
use Rattle.wb_cells.specs.Cells.{Changes, cell_cmp}
use Rattle.wb_cells.specs.Runs.{all_changes}
use Rattle.wb_book.proofs.Entries.{begins, only_runs}
use Rattle.wb_book.proofs.StoredRuns.{objects_stored, first_or}
use Rattle.wb_book.proofs.storing.lone_changes.Goals as goal

pub returns-in_default : goal.returns-in_default
returns-in_default c = λ b.
    let rs = c.parts-first.result.1.now in
    let none : c.new-alone.result.items ≡ [] = search (rules) in
    c.in_ok-add_all_alone.ensures b
    ∙ ap (λ (ys : Changes). changes cell_cmp ys (Object b) || changes cell_cmp (all_changes rs) (Object b)) none
    ∙ ap (λ (ys : Changes). changes cell_cmp ys (Object b))
    (sym (only_runs c.args.delta.now c.parts-first.result.0 rs c.parts-first.ensures (λ x h. c.in_default.not-Some x h)))
    ∙ objects_stored c.args.delta.now b

pub returns : goal.returns
returns c = λ b.
    let x = c.in-Some.first in
    let rs = c.parts-first.result.1.now in
    let none : c.new-alone.result.items ≡ [] = search (rules) in
    let one : c.push.new.self.items ≡ x ∷ [] = c.in_ok-push.ensures.items ∙ ap (λ (ys : Changes). ys ++ x ∷ []) none in
    c.in_ok-add_all_alone-2.ensures b
    ∙ ap (λ (ys : Changes). changes cell_cmp ys (Object b) || changes cell_cmp (all_changes rs) (Object b)) one
    ∙ first_or (eq_by_cmp cell_cmp (Object b) x.cell) (changes cell_cmp (all_changes rs) (Object b))
    ∙ ap (λ (ys : Changes). changes cell_cmp ys (Object b)) (sym (begins c.args.delta.now c.parts-first.result.0 rs c.parts-first.ensures x c.in-Some.is))
    ∙ objects_stored c.args.delta.now b

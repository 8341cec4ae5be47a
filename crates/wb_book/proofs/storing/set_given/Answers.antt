use Rattle.std.proofs.Common.{[], ◌∷◌, sym, ap, ◌∙◌}
use Rattle.selective_undo.specs.Changes.{changes, sets}
use Rattle.wb_cells.specs.Cells.{Changes, cell_cmp}
use Rattle.wb_cells.specs.Runs.{all_changes}
use Rattle.wb_book.specs.Joined.{stored_part}
use Rattle.wb_book.proofs.Entries.{begins}
use Rattle.wb_book.proofs.StoredRuns.{neither_sets}
use Rattle.wb_book.proofs.storing.set_given.Goals as goal

pub returns-clause-others : goal.returns-clause-others
returns-clause-others c = λ q e.
    let x = c.in-Some.first in
    let rs = c.parts-first.result.1.now in
    let both = neither_sets (x ∷ []) (all_changes rs) q (ap (λ (ys : Changes). changes cell_cmp (sets (stored_part ys)) q)
    (sym (begins c.args.delta.now c.parts-first.result.0 rs c.parts-first.ensures x c.in-Some.is)) ∙ e) in
    c.set_runs-2.ensures.others q both.1 ∙ c.set_lone.ensures.others q both.0

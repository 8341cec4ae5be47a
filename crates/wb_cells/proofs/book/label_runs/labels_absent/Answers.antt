use Rattle.std.proofs.Common.{◌≡◌, ℕ, ℤ, Option, None, List, [], ◌∷◌, ◌++◌, sym, ap, ◌∙◌, rules, tests}
use Rattle.wb_cells.specs.declared.changes.row.IndexedRow.{IndexedRow}
use Rattle.wb_cells.specs.declared.changes.row.IndexedRow.TheVariants.{Members}
use Rattle.wb_cells.proofs.LabelRuns.{text_more}
use Rattle.wb_cells.proofs.book.label_runs.labels_absent.Goals as goal

pub loop-at-preserved : goal.loop-at-preserved
loop-at-preserved c =
    let t = c.text.result.now in
    let pushed : c.push_text.new.self ≡ (c.loop-at.found.0, c.loop-at.found.1 ++ (t, None) ∷ []) = search (rules, tests) in
    pushed ∙ ap (λ (f : IndexedRow × List (List ℕ × Option ℤ)). (f.0, f.1 ++ (t, None) ∷ [])) c.loop-at.invariant
    ∙ ap (λ (xs : List (List ℕ × Option ℤ)). (Members c.args.domain.now, xs)) (sym (text_more (λ u. (u, None)) c.args.labels.now.1 c.loop-at.at t c.text.ensures.text))

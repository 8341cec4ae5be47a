use Rattle.std.proofs.Common.{◌≡◌, ℕ, ℤ, Option, List, [], ◌∷◌, ◌++◌, map, take, sym, ap, ◌∙◌, rules, tests}
use Rattle.wb_cells.specs.declared.changes.row.IndexedRow.{IndexedRow}
use Rattle.wb_cells.specs.declared.changes.row.IndexedRow.TheVariants.{Members}
use Rattle.wb_cells.specs.declared.values.index.Index.TheVariants.{Text}
use Rattle.wb_cells.specs.MemberRuns.{number_if, key_found}
use Rattle.wb_cells.specs.WellFormed.{has}
use Rattle.wb_cells.proofs.LabelRuns.{text_more}
use Rattle.wb_cells.proofs.book.label_runs.labels_found.Goals as goal

pub loop-at-preserved : goal.loop-at-preserved
loop-at-preserved g c =
    let is = map g.K.AsIndex.as_index c.args.keys.now.keys in
    let es = c.args.labels.now.1 in
    let k = c.loop-at.at in
    let t = c.text-text.result.now in
    let n = c.number_if.result in
    let pushed : c.push_text.new.self ≡ (c.loop-at.found.0, c.loop-at.found.1 ++ (t, n) ∷ []) = search (rules, tests) in
    let numbered : n ≡ number_if (has is (Text t)) = c.number_if.ensures ∙ ap number_if c.is_there-there.ensures.found in
    record {
      found = pushed ∙ ap (λ (f : IndexedRow × List (List ℕ × Option ℤ)). (f.0, f.1 ++ (t, n) ∷ [])) c.loop-at.invariant.found
          ∙ ap (λ (o : Option ℤ). (Members c.args.domain.now, map (key_found Text is) (take k es) ++ (t, o) ∷ [])) numbered
          ∙ ap (λ (xs : List (List ℕ × Option ℤ)). (Members c.args.domain.now, xs)) (sym (text_more (λ u. (u, number_if (has is (Text u)))) es k t c.text-text.ensures.text));
      members = c.is_there-there.ensures.left;
    }

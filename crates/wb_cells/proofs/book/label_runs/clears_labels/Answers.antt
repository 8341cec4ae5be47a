use Rattle.std.proofs.Common.{◌≡◌, refl, None, map, sym, rules, tests}
use Rattle.std.proofs.lemmas.Option.{slice_get_within, get_or_from_slice_get}
use Rattle.wb_cells.specs.declared.changes.row.IndexedRow.TheVariants.{Members}
use Rattle.wb_cells.specs.declared.values.index.Index.TheVariants.{Text}
use Rattle.wb_cells.specs.Runs.{labelled_at}
use Rattle.wb_cells.proofs.LabelRuns.{entry_at}
use Rattle.wb_cells.proofs.MemberRuns.{cleared_step}
use Rattle.wb_cells.proofs.book.label_runs.clears_labels.Goals as goal

pub loop-at-preserved : goal.loop-at-preserved
loop-at-preserved g c = λ d rest.
    let f = g.K.AsIndex.as_index in
    let es = c.args.labels.now.1 in
    let k = c.loop-at.at in
    let t = c.text.result.now in
    let none : c.number.result ≡ None = search (rules, tests) in
    let here = entry_at es k t None c.text.ensures.text (rw none at c.number.ensures) in
    cleared_step (labelled_at (Members d)) es k (t, None) d (Text t) (map f c.loop-at.left) (map f c.is_next.new.left) _ (slice_get_within es k (t, None) here)
    (sym (get_or_from_slice_get es k (t, None) (t, None) here)) refl (c.is_next.ensures c.if-not-is_next.false) (c.loop-at.invariant d) rest

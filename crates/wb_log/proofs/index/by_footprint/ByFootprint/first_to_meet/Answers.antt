use Rattle.std.proofs.Common.{[], ◌∷◌, None, refl, ap, sym, ◌∙◌, ◌+◌}
use Rattle.selective_undo.specs.Log.{blocks_undo, first_from}
use Rattle.wb_cells.specs.declared.cells.cell.Cell.{Cell}
use Rattle.wb_cells.specs.declared.cells.cell.Cell.TheVariants.{Element}
use Rattle.wb_footprints.specs.Footprints.{met_by}
use Rattle.wb_footprints.proofs.Meeting.{least_like}
use Rattle.wb_log.specs.declared.entry.Before.TheVariants.{Nothing}
use Rattle.wb_log.specs.Kept.{by_number, kept_in, kept_all}
use Rattle.wb_log.specs.Records.{cell_before}
use Rattle.wb_log.proofs.Entries.{drop-map}
use Rattle.wb_log.proofs.Entered.{first_is, index_whole}
use Rattle.wb_log.proofs.Meets.{met_undo, first_like}
use Rattle.wb_log.proofs.index.by_footprint.ByFootprint.first_to_meet.Goals as goal

pub returns-then-self-entries-clause-first : goal.returns-then-self-entries-clause-first
returns-then-self-entries-clause-first c = λ was.
    let x : Cell = Element c.args.target.now.array c.args.target.now.place in
    let n = c.args.at + 2 in
    let later = kept_all c.later_than-later.result.now in
    let p = blocks_undo (cell_before x was) in
    c.first_to_block_undo.ensures
    ∙ ap (λ ys. first_from (blocks_undo ys) n later) (c.one-one.ensures ∙ ap (λ y. y ∷ []) c.new.ensures ∙ ap (λ (d : Cell). record { cell = d; value = None } ∷ []) c.cell.ensures)
    ∙ first_like (blocks_undo (cell_before x Nothing)) p (λ o. met_undo x Nothing o ∙ sym (met_undo x was o)) n later
    ∙ ap (λ ls. first_from p n (kept_all ls)) c.later_than-later.ensures
    ∙ ap (first_from p n) (drop-map kept_in c.args.entries.now (c.args.at + 1))

pub returns-clause-first : goal.returns-clause-first
returns-clause-first c = λ was.
    let es = c.args.entries.now in
    let now = c.fill.new.self in
    let x : Cell = Element c.args.target.now.array c.args.target.now.place in
    let p = blocks_undo (cell_before x was) in
    let whole = index_whole now.index es now.entered c.if-self-entries.false c.fill.ensures.indexed.index in
    first_is es c.args.at p refl c.element_met_after.result
    (least_like (λ n. met_by (by_number es n) x) (λ n. p (by_number es n)) (c.args.at + 1) c.element_met_after.result (λ n. met_undo x was (by_number es n))
    (c.element_met_after.ensures (by_number es) whole))

use Rattle.std.proofs.Common.{refl, ap, sym, ◌∙◌, ◌+◌, drop}
use Rattle.selective_undo.specs.Log.{blocks_undo, first_from}
use Rattle.wb_log.specs.Fills.{filled_in}
use Rattle.wb_log.specs.Kept.{by_number, kept_all}
use Rattle.wb_log.specs.Records.{lent_cells}
use Rattle.wb_log.proofs.Entered.{first_is, index_whole}
use Rattle.wb_log.proofs.index.by_footprint.ByFootprint.first_to_block_undo.Goals as goal

pub returns-in-Listed-clause-first : goal.returns-in-Listed-clause-first
returns-in-Listed-clause-first c =
    let es = c.args.entries.now in
    let at = c.args.at in
    let now = c.fill.new.self in
    let xs = c.in-Listed.cells.now in
    first_is es at (blocks_undo xs) refl c.first_to_block_undo.result
    (c.first_to_block_undo.ensures.least (by_number es) (index_whole now.index es now.entered c.if-self-entries.false c.fill.ensures.indexed.index))
    ∙ ap (λ cs. first_from (blocks_undo (lent_cells cs)) (at + 2) (drop (at + 1) (kept_all es))) (sym c.in-Listed.is)

pub returns-in-Ok-clause-first : goal.returns-in-Ok-clause-first
returns-in-Ok-clause-first c =
    let es = c.args.entries.now in
    let at = c.args.at in
    let now = c.fill.new.self in
    let xs = c.in-Ok.cells in
    first_is es at (blocks_undo xs) refl c.first_to_block_undo-in-Ok.result
    (c.first_to_block_undo-in-Ok.ensures.least (by_number es) (index_whole now.index es now.entered c.if-self-entries.false c.fill.ensures.indexed.index))
    ∙ ap (λ ys. first_from (blocks_undo ys) (at + 2) (drop (at + 1) (kept_all es))) c.in-Ok.ensures.same
    ∙ ap (λ cs. first_from (blocks_undo (lent_cells cs)) (at + 2) (drop (at + 1) (kept_all es))) (sym c.in-Filled.is)

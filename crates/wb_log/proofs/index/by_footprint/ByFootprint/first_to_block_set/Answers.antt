use Rattle.std.proofs.Common.{[], ◌∷◌, ◌+◌, ◌||◌, refl, sym, ap, ◌∙◌}
use Rattle.selective_undo.specs.Log.{blocks_redo}
use Rattle.wb_book.specs.Kept.{element_set}
use Rattle.wb_cells.specs.declared.cells.cell.Cell.TheVariants.{Element, Object}
use Rattle.wb_cells.specs.declared.cells.pattern.Pattern.TheVariants.{One}
use Rattle.wb_footprints.specs.Footprints.{footprint, met_by, touched_one_of, element_reads}
use Rattle.wb_footprints.proofs.Meeting.{least_like}
use Rattle.wb_log.specs.Kept.{by_number}
use Rattle.wb_log.proofs.Entered.{first_is, index_whole}
use Rattle.wb_log.proofs.SetAgain.{met_again}
use Rattle.wb_log.proofs.index.by_footprint.ByFootprint.first_to_block_set.Goals as goal

pub returns-clause-first : goal.returns-clause-first
returns-clause-first c =
    let es = c.args.entries.now in
    let x = c.args.element.now in
    let now = c.fill.new.self in
    let after = c.args.at + 1 in
    let p = blocks_redo (footprint (element_reads x.array x.place) (element_set x.array x.place x.value)) in
    let whole = index_whole now.index es now.entered c.if-self-entries.false c.fill.ensures.indexed.index in
    let e = Element x.array x.place in
    let r = One (Object x.array) in
    let least = c.earlier.ensures (λ n. met_by (by_number es n) e) (λ n. touched_one_of (by_number es n) (r ∷ [])) after
    (c.element_met_after.ensures (by_number es) whole) (c.object_touched_after.ensures (by_number es) whole) in
    first_is es c.args.at p refl c.earlier.result
    (least_like (λ n. met_by (by_number es n) e || touched_one_of (by_number es n) (r ∷ [])) (λ n. p (by_number es n)) after c.earlier.result
    (λ n. met_again x.array x.place x.value (by_number es n)) least)

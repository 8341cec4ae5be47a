use Rattle.std.proofs.Common.{◌≡◌, ℤ, [], ◌∷◌, ◌++◌, ◌+◌, Some, rules, w64, ap, ◌∙◌}
use Rattle.std.proofs.lemmas.Int.{to_z-of_z}
use Rattle.selective_undo.specs.Log.{blocks_redo, first_from}
use Rattle.wb_book.specs.Kept.{element_set}
use Rattle.wb_cells.specs.declared.cells.value.Value.TheVariants.{Number}
use Rattle.wb_cells.specs.declared.changes.change.CellChange.{CellChange}
use Rattle.wb_cells.specs.Reads.{all_read}
use Rattle.wb_footprints.specs.Footprints.{footprint, element_reads}
use Rattle.wb_log.specs.Kept.{kept_in, kept_all}
use Rattle.wb_log.proofs.Entries.{drop-map}
use Rattle.wb_log.proofs.index.by_footprint.first_listed.Goals as goal

pub returns : goal.returns
returns c =
    let x = c.args.element.now in
    let n = c.args.at + 2 in
    let xs = element_set x.array x.place x.value in
    let p = blocks_redo (footprint (element_reads x.array x.place) xs) in
    let later = kept_all c.later_than-later.result.now in
    let set = to_z-of_z w64 x.value (search rules) in
    let delta = c.new.ensures ∙ ap (λ (w : ℤ). let y : CellChange = record { cell = c.cell.result; value = Some (Number w) } in y) set ∙
    ap (λ e. let y : CellChange = record { cell = e; value = Some (Number x.value) } in y) c.cell.ensures in
    c.first_to_block_redo.ensures
    ∙ ap (λ ys. first_from (blocks_redo (footprint (c.reads.result ++ all_read []) ys)) n later)
    (c.one-delta.ensures ∙ ap (λ y. y ∷ []) delta)
    ∙ ap (λ rs. first_from (blocks_redo (footprint (rs ++ all_read []) xs)) n later) c.reads.ensures
    ∙ ap (λ ls. first_from p n (kept_all ls)) c.later_than-later.ensures
    ∙ ap (first_from p n) (drop-map kept_in c.args.entries.now (c.args.at + 1))

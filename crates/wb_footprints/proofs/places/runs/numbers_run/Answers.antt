use Rattle.std.proofs.Common.{Some, map, sym, ap, ◌∙◌}
use Rattle.std.specs.List.{list_any}
use Rattle.std.proofs.lemmas.List.{length-map}
use Rattle.std.proofs.lemmas.Slice.Zip.{firsts-zip}
use Rattle.wb_cells.specs.declared.values.index.Index.TheVariants.{Point}
use Rattle.wb_cells.specs.Runs.{packed_changes, numbered_entries}
use Rattle.wb_rect.specs.Product.{product}
use Rattle.wb_footprints.specs.Footprints.{run_cells, cells_of}
use Rattle.wb_footprints.proofs.Rows.{cells_at, packed_cells}
use Rattle.wb_footprints.proofs.places.runs.numbers_run.Goals as goal

pub returns : goal.returns
returns c = λ f.
    let r = c.args.rectangle.now in
    let row = c.row.result.now in
    let ns = r.numbers.items in
    let es = numbered_entries r.ranges ns in
    let ps = product r.ranges in
    let all = length-map ns (λ n. Some n) ∙ c.is_full.ensures c.if-not-is_full.false ∙ length-map ps Point in
    cells_at (packed_changes r.row es) row Point ps c.within.result
    (ap (λ x. cells_of (packed_changes x es)) (sym c.row.ensures) ∙ packed_cells row es
    ∙ ap (λ qs. run_cells row (map Point qs)) (firsts-zip ps (map (λ n. Some n) ns) all))
    (λ g. c.within.ensures g ∙ ap (λ rs. list_any g (product rs)) c.ranges-2.ensures) f
    ∙ ap (λ xs. list_any f (run_cells row xs)) (sym c.points.ensures)

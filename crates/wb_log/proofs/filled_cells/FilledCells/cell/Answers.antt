use Rattle.std.proofs.Common.{Some, pos, get_or, length, refl, sym, ap, ◌∙◌}
use Rattle.std.proofs.lemmas.List.{get_or_default}
use Rattle.std.proofs.lemmas.Option.{get_or_from_slice_get, slice_get_read}
use Rattle.wb_cells.specs.declared.changes.row.IndexedRow.TheVariants.{Elements}
use Rattle.wb_cells.specs.Runs.{cell_of, value_of}
use Rattle.wb_cells.proofs.Rectangles.{numbered_within, numbered_at}
use Rattle.wb_log.specs.Fills.{filled_in}
use Rattle.wb_log.proofs.filled_cells.FilledCells.cell.Goals as goal

pub index_in-requires : goal.index_in-requires
index_in-requires c =
    let f = c.args.self.now in
    (numbered_within (Elements f.array.now) f.on.now f.numbers.now c.args.at c.requires).0

pub returns : goal.returns
returns c = λ d.
    let f = c.args.self.now in
    let row = Elements f.array.now in
    let ns = f.numbers.now in
    let i = c.index_in.result in
    let n = get_or ns c.args.at (pos 0) in
    let few = (numbered_within row f.on.now ns c.args.at c.requires).1 in
    let at = slice_get_read ns (length ns) c.args.at n refl few (get_or_default ns c.args.at (pos 0) n few) in
    let there = numbered_at row f.on.now ns c.args.at i n c.index_in.ensures at in
    let x = get_or_from_slice_get (filled_in f) c.args.at (record { cell = cell_of row i; value = Some (value_of row n) }) d there in
    ap (λ y. y.cell) (sym x)

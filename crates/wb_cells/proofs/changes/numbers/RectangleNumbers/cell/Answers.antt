use Rattle.std.proofs.Common.{Some, pos, get_or, length, refl, sym, ap, ◌∙◌}
use Rattle.std.proofs.lemmas.List.{get_or_default}
use Rattle.std.proofs.lemmas.Option.{get_or_from_slice_get, slice_get_read}
use Rattle.wb_cells.specs.Runs.{cell_of, value_of, packed_changes, numbered_entries}
use Rattle.wb_cells.proofs.Rectangles.{numbered_within, numbered_at}
use Rattle.wb_cells.proofs.changes.numbers.RectangleNumbers.cell.Goals as goal

pub index_in-requires : goal.index_in-requires
index_in-requires c = let r = c.args.self.now in (numbered_within r.row r.ranges r.numbers.items c.args.at c.requires).0

pub returns : goal.returns
returns c = λ d.
    let r = c.args.self.now in
    let ns = r.numbers.items in
    let i = c.index_in.result in
    let n = get_or ns c.args.at (pos 0) in
    let few = (numbered_within r.row r.ranges ns c.args.at c.requires).1 in
    let at = slice_get_read ns (length ns) c.args.at n refl few (get_or_default ns c.args.at (pos 0) n few) in
    let there = numbered_at r.row r.ranges ns c.args.at i n c.index_in.ensures at in
    let x = get_or_from_slice_get (packed_changes r.row (numbered_entries r.ranges ns)) c.args.at
    (record { cell = cell_of r.row i; value = Some (value_of r.row n) }) d there in
    c.cell.ensures ∙ ap (λ y. y.cell) (sym x)

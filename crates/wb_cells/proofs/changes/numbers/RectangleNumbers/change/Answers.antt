use Rattle.std.proofs.Common.{Option, Some, ℤ, pos, ◌≡◌, get_or, slice_get, length, refl, sym, ap, ◌∙◌}
use Rattle.std.specs.Prelude.{option_map}
use Rattle.std.proofs.lemmas.List.{get_or_default}
use Rattle.std.proofs.lemmas.Option.{get_or_from_slice_get, slice_get_read}
use Rattle.selective_undo.specs.declared.Change.{Change}
use Rattle.wb_cells.specs.declared.cells.cell.Cell.{Cell}
use Rattle.wb_cells.specs.declared.cells.value.Value.{Value}
use Rattle.wb_cells.specs.Runs.{cell_of, value_of, packed_changes, numbered_entries}
use Rattle.wb_cells.proofs.Rectangles.{numbered_within, numbered_at}
use Rattle.wb_cells.proofs.changes.numbers.RectangleNumbers.change.Goals as goal

pub index_in-requires : goal.index_in-requires
index_in-requires c = let r = c.args.self.now in (numbered_within r.row r.ranges r.numbers.items c.args.at c.requires).0

pub returns : goal.returns
returns c =
    let r = c.args.self.now in
    let ns = r.numbers.items in
    let i = c.index_in.result in
    let n = get_or ns c.args.at (pos 0) in
    let few = (numbered_within r.row r.ranges ns c.args.at c.requires).1 in
    let at = slice_get_read ns (length ns) c.args.at n refl few (get_or_default ns c.args.at (pos 0) n few) in
    let number : c.number_in-number.result ≡ Some n = c.number_in-number.ensures ∙ ap (λ ms. slice_get ms c.args.at) c.as_slice.ensures.value ∙ at in
    let made : Option ℤ → Change Cell Value = λ o. record { cell = cell_of r.row i; value = option_map (value_of r.row) o } in
    let is : c.change.result ≡ made (Some n) = c.change.ensures ∙ ap made number in
    let there = numbered_at r.row r.ranges ns c.args.at i n c.index_in.ensures at ∙ ap Some (sym is) in
    sym (get_or_from_slice_get (packed_changes r.row (numbered_entries r.ranges ns)) c.args.at c.change.result c.change.result there)

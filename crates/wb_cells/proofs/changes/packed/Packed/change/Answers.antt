use Rattle.std.proofs.Common.{Some, length, slice_get, refl, ap, sym, ◌∙◌, arith}
use Rattle.std.proofs.lemmas.List.{length-map}
use Rattle.std.proofs.lemmas.Option.{slice_get-map, slice_get_read, get_or_from_slice_get}
use Rattle.std.specs.Prelude.{option_map}
use Rattle.wb_cells.specs.Runs.{change_at, packed_changes}
use Rattle.wb_cells.proofs.changes.packed.Packed.change.Goals as goal

pub returns : goal.returns
returns g c =
    let row = c.args.self.now.row in
    let es = c.args.self.now.changes.items in
    let seen = c.as_slice-changes.result.now in
    let entry = c.index-changes-at.result in
    let at = slice_get_read seen (length seen) c.args.at entry refl (omega (
      arith,
      c.requires.place,
      c.as_slice-changes.ensures.len,
      length-map es (change_at row),
    )) c.index-changes-at.is in
    let there = slice_get-map (change_at row) es c.args.at
    ∙ ap (λ xs. option_map (change_at row) (slice_get xs c.args.at)) (sym c.as_slice-changes.ensures.value)
    ∙ ap (option_map (change_at row)) at
    ∙ ap Some (sym c.change_at.ensures) in
    sym (get_or_from_slice_get (packed_changes row es) c.args.at c.change_at.result c.change_at.result there)

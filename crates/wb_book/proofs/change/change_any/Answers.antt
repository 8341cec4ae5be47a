use Rattle.std.proofs.Common.{◌≡◌, refl, sym, ap, subst, ◌∙◌}
use Rattle.selective_undo.specs.Changes.{apply, changes, AllOnce, sets}
use Rattle.selective_undo.proofs.AllOrNothing.{once-inverse, room-inverse, off_cells}
use Rattle.std.specs.List.{All}
use Rattle.wb_cells.specs.Stored.{FitsChange}
use Rattle.wb_book.proofs.Fitting.{values_fit}
use Rattle.wb_cells.specs.declared.cells.cell.Cell.TheVariants.{Object}
use Rattle.wb_cells.specs.Cells.{Changes, Name, cell_cmp, cell_order, state_of}
use Rattle.wb_book.specs.Joined.{stored_in, stored_part}
use Rattle.wb_book.specs.After.{lies_at, is_array}
use Rattle.wb_book.specs.Kept.{array_in}
use Rattle.wb_book.specs.Moved.{put_over}
use Rattle.wb_book.proofs.StoredRuns.{dropped_by}
use Rattle.wb_book.proofs.Built.{built_ascending}
use Rattle.wb_book.proofs.ElementsSet.{set_whole}
use Rattle.wb_book.proofs.SetBack.{once_set}
use Rattle.wb_book.proofs.Whole.{once_stored, made_cells, made_shelf, taken_back}
use Rattle.wb_book.proofs.Formed.{all_formed, all_numeric}
use Rattle.wb_book.specs.Shelf.{cells_of}
use Rattle.wb_book.proofs.change.change_any.Goals as goal

pub returns-then-are_set-clause-ok : goal.returns-then-are_set-clause-ok
returns-then-are_set-clause-ok g c =
    (set_whole c.args.cells.now c.args.arrays.now c.set_all.new.arrays c.args.delta.now c.requires.shelf c.requires.formed
    (sym c.are_set.ensures ∙ c.if-are_set.true)
    c.set_all.ensures.names c.set_all.ensures.lie c.set_all.ensures.agree).0

pub returns-then-are_set-clause-shelf : goal.returns-then-are_set-clause-shelf
returns-then-are_set-clause-shelf g c =
    (set_whole c.args.cells.now c.args.arrays.now c.set_all.new.arrays c.args.delta.now c.requires.shelf c.requires.formed
    (sym c.are_set.ensures ∙ c.if-are_set.true)
    c.set_all.ensures.names c.set_all.ensures.lie c.set_all.ensures.agree).1

pub group_changes-requires : goal.group_changes-requires
group_changes-requires g c = all_numeric c.args.delta.now (cells_of c.args.cells.now c.args.arrays.now) c.requires.once c.requires.formed

pub prepare-requires-after_bounds : goal.prepare-requires-after_bounds
prepare-requires-after_bounds g c κs within =
    all_formed c.args.cells.now c.args.arrays.now c.args.delta.now c.requires.shelf (stored_part c.args.delta.now) refl c.requires.once c.requires.formed c.in-Ok-group_changes.groups.entries c.in-Ok-group_changes.ensures.lead c.in-Ok-group_changes.ensures.ascending

pub finish-requires : goal.finish-requires
finish-requires g c =
    built_ascending (lies_at (stored_in c.prepare.new.cells.entries)) c.prepare.new.arrays.entries c.in-Ok-group_changes.groups.entries
    c.in-Ok-prepare.built.items
    c.in-Ok-prepare.ensures.built c.in-Ok-group_changes.ensures.ascending

pub returns-in-Ok-prepare-clause-ok : goal.returns-in-Ok-prepare-clause-ok
returns-in-Ok-prepare-clause-ok g c =
    let named : (b : Name) → changes cell_cmp c.as_slice-alone.result.now (Object b) ≡ changes cell_cmp (stored_part c.args.delta.now) (Object b) =
    λ b. ap (λ (ys : Changes). changes cell_cmp ys (Object b)) c.as_slice-alone.ensures.value ∙ c.in-Ok.ensures b in
    made_cells c.args.cells.now c.args.arrays.now c.args.delta.now c.requires.shelf (stored_part c.args.delta.now) refl c.requires.once c.requires.formed
    c.prepare.new.cells c.finish.new.cells c.prepare.new.arrays.entries c.finish.new.arrays.entries c.in-Ok-prepare.built.items
    c.in-Ok-prepare.ensures.set c.finish.ensures.cells (λ b e. c.in-Ok-prepare.ensures.others b (named b ∙ e)) c.in-Ok-prepare.ensures.elements
    (λ b e is. c.in-Ok-prepare.ensures.there b (named b ∙ e) is)
    c.in-Ok-group_changes.groups.entries c.in-Ok-group_changes.ensures.lead c.in-Ok-group_changes.ensures.objects
    c.in-Ok-group_changes.ensures.ascending c.in-Ok-prepare.ensures.built (dropped_by c.as_slice-alone.result.now (stored_part c.args.delta.now) named
    (λ b. put_over (array_in c.prepare.new.arrays.entries b) (array_in c.in-Ok-prepare.built.items b)) (array_in c.finish.new.arrays.entries)
    (λ b. is_array (stored_in c.finish.new.cells.entries (Object b))) c.finish.ensures.arrays)
    c.finish.new.arrays refl c.finish.ensures.ascending_cells c.finish.ensures.ascending

pub returns-in-Ok-prepare-clause-shelf : goal.returns-in-Ok-prepare-clause-shelf
returns-in-Ok-prepare-clause-shelf g c =
    let named : (b : Name) → changes cell_cmp c.as_slice-alone.result.now (Object b) ≡ changes cell_cmp (stored_part c.args.delta.now) (Object b) =
    λ b. ap (λ (ys : Changes). changes cell_cmp ys (Object b)) c.as_slice-alone.ensures.value ∙ c.in-Ok.ensures b in
    made_shelf c.args.cells.now c.args.arrays.now c.args.delta.now c.requires.shelf (stored_part c.args.delta.now) refl c.requires.once c.requires.formed
    c.prepare.new.cells c.finish.new.cells c.prepare.new.arrays.entries c.finish.new.arrays.entries c.in-Ok-prepare.built.items
    c.in-Ok-prepare.ensures.set c.finish.ensures.cells (λ b e. c.in-Ok-prepare.ensures.others b (named b ∙ e)) c.in-Ok-prepare.ensures.elements
    (λ b e is. c.in-Ok-prepare.ensures.there b (named b ∙ e) is)
    c.in-Ok-group_changes.groups.entries c.in-Ok-group_changes.ensures.lead c.in-Ok-group_changes.ensures.objects
    c.in-Ok-group_changes.ensures.ascending c.in-Ok-prepare.ensures.built (dropped_by c.as_slice-alone.result.now (stored_part c.args.delta.now) named
    (λ b. put_over (array_in c.prepare.new.arrays.entries b) (array_in c.in-Ok-prepare.built.items b)) (array_in c.finish.new.arrays.entries)
    (λ b. is_array (stored_in c.finish.new.cells.entries (Object b))) c.finish.ensures.arrays)
    c.in-Ok-group_changes.ensures.others
    c.finish.new.arrays refl c.finish.ensures.ascending_cells c.finish.ensures.ascending

pub take_back-requires-clause-once : goal.take_back-requires-clause-once
take_back-requires-clause-once g c =
    let xs : Changes = stored_part c.args.delta.now in
    let once : AllOnce cell_cmp xs = once_stored c.args.delta.now c.requires.once in
    subst (λ (ys : Changes). AllOnce cell_cmp ys) (sym c.in-Ok-given_before.ensures)
    (once-inverse (sets xs) (state_of c.args.cells.now) (once_set xs once))

pub take_back-requires-clause-room : goal.take_back-requires-clause-room
take_back-requires-clause-room g c =
    rw (c.in-Ok-given_before.ensures)
    (room-inverse (sets (stored_part c.args.delta.now)) (state_of c.args.cells.now) (state_of c.prepare.new.cells) c.prepare.ensures.stays_cells)

pub take_back-requires-clause-fits : goal.take_back-requires-clause-fits
take_back-requires-clause-fits g c =
    subst (λ (ys : Changes). All FitsChange ys) (sym c.in-Ok-given_before.ensures)
    (values_fit c.args.cells.now c.args.arrays.now c.requires.shelf (sets (stored_part c.args.delta.now)))

pub returns-clause-err : goal.returns-clause-err
returns-clause-err g c =
    let named : (b : Name) → changes cell_cmp c.as_slice-alone.result.now (Object b) ≡ changes cell_cmp (stored_part c.args.delta.now) (Object b) =
    λ b. ap (λ (ys : Changes). changes cell_cmp ys (Object b)) c.as_slice-alone.ensures.value ∙ c.in-Ok.ensures b in
    let xs : Changes = stored_part c.args.delta.now in
    let back : state_of c.take_back.new.cells ≡ state_of c.args.cells.now =
    c.take_back.ensures.cells ∙ ap (λ (ys : Changes). apply ys (state_of c.prepare.new.cells)) c.in-Ok-given_before.ensures
    ∙ off_cells cell_order (sets xs) (state_of c.args.cells.now) (state_of c.prepare.new.cells) c.prepare.ensures.others_cells in
    (taken_back c.args.cells.now c.args.arrays.now c.args.delta.now c.requires.shelf xs refl
    c.take_back.new.cells c.prepare.new.arrays.entries c.take_back.new.arrays.entries back (λ b e. c.prepare.ensures.others b (named b ∙ e)) c.prepare.ensures.stays
    (dropped_by c.as_slice-alone.result.now xs named (array_in c.prepare.new.arrays.entries) (array_in c.take_back.new.arrays.entries)
    (λ b. is_array (stored_in c.take_back.new.cells.entries (Object b))) c.take_back.ensures.arrays)
    c.take_back.new.arrays refl c.take_back.ensures.ascending_cells c.take_back.ensures.ascending).0

pub returns-clause-shelf : goal.returns-clause-shelf
returns-clause-shelf g c =
    let named : (b : Name) → changes cell_cmp c.as_slice-alone.result.now (Object b) ≡ changes cell_cmp (stored_part c.args.delta.now) (Object b) =
    λ b. ap (λ (ys : Changes). changes cell_cmp ys (Object b)) c.as_slice-alone.ensures.value ∙ c.in-Ok.ensures b in
    let xs : Changes = stored_part c.args.delta.now in
    let back : state_of c.take_back.new.cells ≡ state_of c.args.cells.now =
    c.take_back.ensures.cells ∙ ap (λ (ys : Changes). apply ys (state_of c.prepare.new.cells)) c.in-Ok-given_before.ensures
    ∙ off_cells cell_order (sets xs) (state_of c.args.cells.now) (state_of c.prepare.new.cells) c.prepare.ensures.others_cells in
    (taken_back c.args.cells.now c.args.arrays.now c.args.delta.now c.requires.shelf xs refl
    c.take_back.new.cells c.prepare.new.arrays.entries c.take_back.new.arrays.entries back (λ b e. c.prepare.ensures.others b (named b ∙ e)) c.prepare.ensures.stays
    (dropped_by c.as_slice-alone.result.now xs named (array_in c.prepare.new.arrays.entries) (array_in c.take_back.new.arrays.entries)
    (λ b. is_array (stored_in c.take_back.new.cells.entries (Object b))) c.take_back.ensures.arrays)
    c.take_back.new.arrays refl c.take_back.ensures.ascending_cells c.take_back.ensures.ascending).1

use Rattle.std.proofs.Common.{refl, sym, ap, ◌∙◌}
use Rattle.selective_undo.specs.Changes.{inverse}
use Rattle.selective_undo.specs.Edit.{outcome, reads}
use Rattle.wb_edit.specs.Edits.{meaning}
use Rattle.wb_log.specs.declared.entry.UndoData.{UndoData}
use Rattle.wb_log.proofs.Appended.{cells_seen, keeps_made}
use Rattle.wb_log.proofs.Valid.{planned_well_formed}
use Rattle.wb_log.proofs.log.Log.keep_new.Goals as goal

pub make-requires-clause-well_formed : goal.make-requires-clause-well_formed
make-requires-clause-well_formed g c = λ _ _.
    let es = c.self.inside.entries.items in
    let s = c.self.inside.book.cells in
    let e = c.args.edit in
    let xs = c.args.delta in
    let now = cells_seen es s c.self.inside.book.writes c.args.self.now c.self.invariant.shows c.self.view_is in
    planned_well_formed es s e xs c.self.invariant.shows c.self.invariant.valid c.requires.valid (ap (outcome (meaning e)) now ∙ c.requires.outcome)

pub invariant_of-self-in-Ok-make : goal.invariant_of-self-in-Ok-make
invariant_of-self-in-Ok-make g c =
    let es = c.self.inside.entries.items in
    let s = c.self.inside.book.cells in
    let e = c.args.edit in
    let xs = c.args.delta in
    let now = cells_seen es s c.self.inside.book.writes c.args.self.now c.self.invariant.shows c.self.view_is in
    let q : UndoData = record { footprint = c.args.footprint; inverse = inverse xs s } in
    rw (c.in-Ok-make.ensures.cells, c.in-Ok-push.ensures.items, c.reserve.ensures.items, c.in-Ok-make.ensures.entry, c.in-Ok.ensures)
    (keeps_made s c.self.inside.index es e xs q c.self.invariant c.requires.valid (ap (outcome (meaning e)) now ∙ c.requires.outcome)
    (c.requires.reads ∙ ap (reads (meaning e)) (sym now)) refl)

use Rattle.std.proofs.Common.{◌≡◌, true, Some, None, Ok, Err, slice_get, slice_set, length, sym, ap, subst, ◌∙◌}
use Rattle.std.proofs.lemmas.Option.{slice_get-get_or}
use Rattle.wb_book.specs.Kept.{element_set}
use Rattle.wb_cells.specs.Cells.{Cells}
use Rattle.wb_edit.specs.declared.command.Command.TheVariants.{Set}
use Rattle.wb_edit.specs.declared.edit.Edit.TheVariants.{Command as OneCommand}
use Rattle.wb_footprints.specs.Footprints.{element_reads}
use Rattle.wb_log.specs.declared.entry.LoggedEdit.{LoggedEdit}
use Rattle.wb_log.specs.Indexed.{Keeps, IsIndexed}
use Rattle.wb_log.specs.Kept.{by_number, numbered_entries, entries_meant, PlansAgain, Shows}
use Rattle.wb_log.specs.Past.{meant, into_force, AreValid}
use Rattle.wb_log.specs.Replies.{RedoReply, RedoesInPlace}
use Rattle.wb_log.proofs.Entered.{set_indexed, no_kept}
use Rattle.wb_log.proofs.Entries.{set_same}
use Rattle.wb_log.proofs.Granted.{redoes_in_place}
use Rattle.wb_log.proofs.Redone.{redone_kept, redone_reply, redone_numbers}
use Rattle.wb_log.proofs.Seen.{place_in}
use Rattle.wb_log.proofs.Straight.{set_accepted}
use Rattle.wb_log.proofs.Valid.{valid_force, planned_again_well_formed, well_formed}
use Rattle.wb_log.proofs.log.Log.redo_set.Goals.{then-set_again, else-set_again}
use Rattle.wb_log.proofs.log.Log.redo_set.Goals as goal

pub returns-in-Some-Err-clause-reply : goal.returns-in-Some-Err-clause-reply
returns-in-Some-Err-clause-reply c =
    let why = rw c.in-Some-Err.field-0-is at c.in-Some-Err.ensures.err in
    subst (λ p. RedoReply (meant p.entries) c.args.at (Err c.in-Some-Err.why)) c.self.view_is
    (subst (λ es. RedoReply (entries_meant es) c.args.at (Err c.in-Some-Err.why)) c.deref.ensures.value why)

pub set_again-requires-clause-well_formed : goal.set_again-requires-clause-well_formed
set_again-requires-clause-well_formed c = λ there.
    let es = c.self.inside.entries.items in
    let s : Cells = c.self.inside.book.cells in
    let e = c.in-Some-Ok.element in
    let x : LoggedEdit = record { edit = OneCommand (Set e.array e.place e.value); kept = None } in
    let edit = rw c.in-Some-Ok.field-0-is at c.in-Some-Ok.ensures.edit in
    let is = subst (λ gs. slice_get gs c.args.at ≡ Some x) c.deref.ensures.value edit in
    let shows = c.self.invariant.shows in
    let valid = c.self.invariant.valid in
    planned_again_well_formed es s c.args.at x (element_set e.array e.place e.value) shows valid is
    (set_accepted s (well_formed es s shows valid) e.array e.place e.value there)

pub returns-after-set_again-clause-reply : goal.returns-after-set_again-clause-reply
returns-after-set_again-clause-reply c =
    let es = c.self.inside.entries.items in
    let s : Cells = c.self.inside.book.cells in
    let at = c.args.at in
    let e = c.in-Some-Ok.element in
    let xs = element_set e.array e.place e.value in
    let rs = element_reads e.array e.place in
    let ok = rw c.in-Some-Ok.field-0-is at c.in-Some-Ok.ensures.ok in
    elim c.if-set_again.branch [
      | then-set_again w ↦
          let there = c.set_again.ensures.there w.if-set_again.true in
          let plan = subst (λ gs. PlansAgain gs at s xs rs 1) c.deref.ensures.value (ok there) in
          rw w.result-is (subst (λ p. RedoReply (meant p.entries) at (Ok 1)) c.self.view_is
          (redone_reply s es at plan.0 c.self.invariant.shows plan.1 xs rs 1 plan))
      | else-set_again w ↦ rw w.result-is tt
    ]

pub returns-after-set_again-clause-entries : goal.returns-after-set_again-clause-entries
returns-after-set_again-clause-entries c =
    let es = c.self.inside.entries.items in
    let s : Cells = c.self.inside.book.cells in
    let at = c.args.at in
    let e = c.in-Some-Ok.element in
    let xs = element_set e.array e.place e.value in
    let rs = element_reads e.array e.place in
    let ok = rw c.in-Some-Ok.field-0-is at c.in-Some-Ok.ensures.ok in
    let low = place_in es c.self.inside.book.writes at c.args.self.now c.self.view_is c.requires in
    let x = c.index_mut.result.now in
    let is = slice_get-get_or es at x low ∙ ap Some (sym c.index_mut.ensures.value) in
    let y = c.set_again.new.entry in
    elim c.if-set_again.branch [
      | then-set_again w ↦
          let yes = w.if-set_again.true in
          let plan = subst (λ gs. PlansAgain gs at s xs rs 1) c.deref.ensures.value (ok (c.set_again.ensures.there yes)) in
          rw w.result-is (subst (λ p. numbered_entries (slice_set es at y) ≡ into_force at p.entries) c.self.view_is
          (redone_numbers s es at x c.self.invariant.shows is xs rs 1 plan y (c.set_again.ensures.entry yes)))
      | else-set_again w ↦ rw w.result-is tt
    ]

pub returns-after-set_again-clause-in_place : goal.returns-after-set_again-clause-in_place
returns-after-set_again-clause-in_place c =
    let es = c.self.inside.entries.items in
    let s : Cells = c.self.inside.book.cells in
    let at = c.args.at in
    let e = c.in-Some-Ok.element in
    let xs = element_set e.array e.place e.value in
    let rs = element_reads e.array e.place in
    let ok = rw c.in-Some-Ok.field-0-is at c.in-Some-Ok.ensures.ok in
    let low = place_in es c.self.inside.book.writes at c.args.self.now c.self.view_is c.requires in
    let x = c.index_mut.result.now in
    let is = slice_get-get_or es at x low ∙ ap Some (sym c.index_mut.ensures.value) in
    let y = c.set_again.new.entry in
    let fs = slice_set es at y in
    let shows = c.self.invariant.shows in
    elim c.if-set_again.branch [
      | then-set_again w ↦
          let yes = w.if-set_again.true in
          let plan = subst (λ gs. PlansAgain gs at s xs rs 1) c.deref.ensures.value (ok (c.set_again.ensures.there yes)) in
          rw w.result-is (subst (λ p. RedoesInPlace (meant p.entries) at (entries_meant fs)) c.self.view_is
          (redoes_in_place s es (numbered_entries fs) shows at (Ok 1) (redone_reply s es at x shows is xs rs 1 plan)
          (redone_numbers s es at x shows is xs rs 1 plan y (c.set_again.ensures.entry yes))))
      | else-set_again w ↦ rw w.result-is tt
    ]

pub invariant_of-self-in-Some-Ok : goal.invariant_of-self-in-Some-Ok
invariant_of-self-in-Some-Ok c =
    let es = c.self.inside.entries.items in
    let s : Cells = c.self.inside.book.cells in
    let at = c.args.at in
    let e = c.in-Some-Ok.element in
    let xs = element_set e.array e.place e.value in
    let rs = element_reads e.array e.place in
    let ok = rw c.in-Some-Ok.field-0-is at c.in-Some-Ok.ensures.ok in
    let low = place_in es c.self.inside.book.writes at c.args.self.now c.self.view_is c.requires in
    let x = c.index_mut.result.now in
    let is = slice_get-get_or es at x low ∙ ap Some (sym c.index_mut.ensures.value) in
    let y = c.set_again.new.entry in
    let shows = c.self.invariant.shows in
    let valid = c.self.invariant.valid in
    let indexed = subst (λ gs. IsIndexed c.set_to_redo.new.index gs) c.deref.ensures.value c.in-Some-Ok.ensures.indexed in
    let told = c.set_again.ensures in
    elim c.if-set_again.branch [
      | then-set_again w ↦
          let yes = w.if-set_again.true in
          let plan = subst (λ gs. PlansAgain gs at s xs rs 1) c.deref.ensures.value (ok (told.there yes)) in
          let numbers = redone_numbers s es at x shows is xs rs 1 plan y (told.entry yes) in
          record {
            shows = redone_kept s es at x shows is xs rs 1 plan y c.set_again.new.book.cells (told.entry yes) (told.cells yes);
            valid = subst AreValid (sym numbers) (valid_force true at (numbered_entries es) valid);
            indexed = set_indexed c.set_again.new.index es at y low (told.put yes (length es) (by_number es) indexed (no_kept es at plan.0 plan.1 plan.2));
          }
      | else-set_again w ↦
          let no = w.if-set_again.false in
          let same : slice_set es at y ≡ es = ap (slice_set es at) (told.entry_stays no) ∙ set_same es at x is es at x is in
          subst (λ gs. Keeps gs c.set_again.new.book.cells c.set_again.new.index) (sym same) (record {
            shows = subst (λ b. Shows es b.cells) (sym (told.book_stays no)) shows;
            valid = valid;
            indexed = subst (λ i. IsIndexed i es) (sym (told.index_stays no)) indexed;
          })
    ]

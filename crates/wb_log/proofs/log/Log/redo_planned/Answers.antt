use Rattle.std.proofs.Common.{◌≡◌, true, Some, Ok, Err, OnOk, slice_set, length, sym, ap, subst, ◌∙◌}
use Rattle.std.proofs.lemmas.Option.{slice_get-get_or}
use Rattle.wb_edit.specs.declared.refusal.Refusal.TheVariants.{NoMemory}
use Rattle.wb_log.specs.Indexed.{Keeps, IsIndexed}
use Rattle.wb_log.specs.Kept.{by_number, numbered_entries, entries_meant, PlansAgain, Shows}
use Rattle.wb_log.specs.Past.{meant, into_force, AreValid}
use Rattle.wb_log.specs.Replies.{RedoReply, RedoesInPlace}
use Rattle.wb_log.proofs.Entered.{set_indexed, no_kept}
use Rattle.wb_log.proofs.Entries.{set_same}
use Rattle.wb_log.proofs.Granted.{redoes_in_place}
use Rattle.wb_log.proofs.Redone.{redone_kept, redone_reply, redone_memory, redone_numbers}
use Rattle.wb_log.proofs.Seen.{place_in}
use Rattle.wb_log.proofs.Valid.{valid_force, planned_again_well_formed}
use Rattle.wb_log.proofs.log.Log.redo_planned.Goals.{in-Ok-put_in, in-Err-put_in}
use Rattle.wb_log.proofs.log.Log.redo_planned.Goals as goal

pub returns-in-Err-clause-reply : goal.returns-in-Err-clause-reply
returns-in-Err-clause-reply g c =
    subst (λ p. RedoReply (meant p.entries) c.args.at (Err c.in-Err.why)) c.self.view_is
    (subst (λ es. RedoReply (entries_meant es) c.args.at (Err c.in-Err.why)) c.deref.ensures.value c.in-Err.ensures.err)

pub put_in-requires-clause-well_formed : goal.put_in-requires-clause-well_formed
put_in-requires-clause-well_formed g c = λ _ _.
    let es = c.self.inside.entries.items in
    let s = c.self.inside.book.cells in
    let plan = subst (λ es. PlansAgain es c.args.at s c.in-Ok.delta c.in-Ok.footprint c.in-Ok.count) c.deref.ensures.value c.in-Ok.ensures.ok in
    planned_again_well_formed es s c.args.at plan.0 c.in-Ok.delta c.self.invariant.shows c.self.invariant.valid plan.1 plan.3

pub returns-after-put_in-clause-reply : goal.returns-after-put_in-clause-reply
returns-after-put_in-clause-reply g c =
    let es = c.self.inside.entries.items in
    let s = c.self.inside.book.cells in
    let xs = c.in-Ok.delta in
    let rs = c.in-Ok.footprint in
    let n = c.in-Ok.count in
    let plan = subst (λ es. PlansAgain es c.args.at s xs rs n) c.deref.ensures.value c.in-Ok.ensures.ok in
    let shows = c.self.invariant.shows in
    elim c.match-put_in.branch [
      | in-Ok-put_in w ↦ rw w.result-is
          (subst (λ p. RedoReply (meant p.entries) c.args.at (Ok n)) c.self.view_is (redone_reply s es c.args.at plan.0 shows plan.1 xs rs n plan))
      | in-Err-put_in w ↦ rw w.result-is
          (subst (λ p. RedoReply (meant p.entries) c.args.at (Err NoMemory)) c.self.view_is (redone_memory s es c.args.at plan.0 shows plan.1 xs rs n plan))
    ]

pub returns-after-put_in-clause-entries : goal.returns-after-put_in-clause-entries
returns-after-put_in-clause-entries g c =
    let es = c.self.inside.entries.items in
    let s = c.self.inside.book.cells in
    let at = c.args.at in
    let xs = c.in-Ok.delta in
    let rs = c.in-Ok.footprint in
    let n = c.in-Ok.count in
    let plan = subst (λ es. PlansAgain es at s xs rs n) c.deref.ensures.value c.in-Ok.ensures.ok in
    let low = place_in es c.self.inside.book.writes at c.args.self.now c.self.view_is c.requires in
    let x = c.index_mut.result.now in
    let is = slice_get-get_or es at x low ∙ ap Some (sym c.index_mut.ensures.value) in
    let y = c.put_in.new.entry in
    let fs = slice_set es at y in
    let shows = c.self.invariant.shows in
    elim c.match-put_in.branch [
      | in-Ok-put_in w ↦ rw w.result-is
          (subst (λ p. numbered_entries fs ≡ into_force at p.entries) c.self.view_is (redone_numbers s es at x shows is xs rs n plan y w.in-Ok-put_in.ensures.entry))
      | in-Err-put_in w ↦ rw w.result-is tt
    ]

pub returns-after-put_in-clause-in_place : goal.returns-after-put_in-clause-in_place
returns-after-put_in-clause-in_place g c =
    let es = c.self.inside.entries.items in
    let s = c.self.inside.book.cells in
    let at = c.args.at in
    let xs = c.in-Ok.delta in
    let rs = c.in-Ok.footprint in
    let n = c.in-Ok.count in
    let plan = subst (λ es. PlansAgain es at s xs rs n) c.deref.ensures.value c.in-Ok.ensures.ok in
    let low = place_in es c.self.inside.book.writes at c.args.self.now c.self.view_is c.requires in
    let x = c.index_mut.result.now in
    let is = slice_get-get_or es at x low ∙ ap Some (sym c.index_mut.ensures.value) in
    let y = c.put_in.new.entry in
    let fs = slice_set es at y in
    let shows = c.self.invariant.shows in
    elim c.match-put_in.branch [
      | in-Ok-put_in w ↦ rw w.result-is
          (subst (λ p. RedoesInPlace (meant p.entries) at (entries_meant fs)) c.self.view_is
          (redoes_in_place s es (numbered_entries fs) shows at (Ok n) (redone_reply s es at x shows is xs rs n plan)
          (redone_numbers s es at x shows is xs rs n plan y w.in-Ok-put_in.ensures.entry)))
      | in-Err-put_in w ↦ rw w.result-is tt
    ]

pub invariant_of-self-in-Ok : goal.invariant_of-self-in-Ok
invariant_of-self-in-Ok g c =
    let es = c.self.inside.entries.items in
    let s = c.self.inside.book.cells in
    let at = c.args.at in
    let xs = c.in-Ok.delta in
    let rs = c.in-Ok.footprint in
    let n = c.in-Ok.count in
    let plan = subst (λ es. PlansAgain es at s xs rs n) c.deref.ensures.value c.in-Ok.ensures.ok in
    let low = place_in es c.self.inside.book.writes at c.args.self.now c.self.view_is c.requires in
    let x = c.index_mut.result.now in
    let is = slice_get-get_or es at x low ∙ ap Some (sym c.index_mut.ensures.value) in
    let y = c.put_in.new.entry in
    let fs = slice_set es at y in
    let shows = c.self.invariant.shows in
    let valid = c.self.invariant.valid in
    let indexed = subst (λ gs. IsIndexed c.plan_again.new.index gs) c.deref.ensures.value c.in-Ok.ensures.indexed in
    elim c.match-put_in.branch [
      | in-Ok-put_in w ↦
          let told = w.in-Ok-put_in.ensures in
          let numbers = redone_numbers s es at x shows is xs rs n plan y told.entry in
          record {
            shows = redone_kept s es at x shows is xs rs n plan y c.put_in.new.book.cells told.entry told.cells;
            valid = subst AreValid (sym numbers) (valid_force true at (numbered_entries es) valid);
            indexed = set_indexed c.put_in.new.index es at y low (told.put (length es) (by_number es) indexed (no_kept es at plan.0 plan.1 plan.2));
          }
      | in-Err-put_in w ↦
          let told = w.in-Err-put_in.ensures in
          let same : fs ≡ es = ap (slice_set es at) told.entry_stays ∙ set_same es at x is es at x is in
          subst (λ gs. Keeps gs c.put_in.new.book.cells c.put_in.new.index) (sym same) (record {
            shows = subst (λ b. Shows es b.cells) (sym told.book_stays) shows;
            valid = valid;
            indexed = subst (λ i. IsIndexed i es) (sym told.index_stays) indexed;
          })
    ]

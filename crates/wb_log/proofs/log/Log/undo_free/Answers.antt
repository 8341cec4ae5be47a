use Rattle.std.proofs.Common.{◌≡◌, ◌<◌, ◌^◌, Some, OnOk, OnErr, slice_set, length, false, arith, sym, ap, subst, ◌∙◌}
use Rattle.std.proofs.lemmas.Option.{slice_get-get_or}
use Rattle.wb_log.specs.Cascades.{IsFree}
use Rattle.wb_log.specs.Kept.{numbered_entries, entries_meant}
use Rattle.wb_log.specs.Past.{Past, meant, out_of_force}
use Rattle.wb_log.specs.Replies.{UndoReply, SetsBack, LeavesOthers}
use Rattle.wb_log.proofs.Entered.{undone_indexed}
use Rattle.wb_log.proofs.Entries.{undone_kept, undone_reply, undone_numbers, stay_numbers}
use Rattle.wb_log.proofs.Free.{free_here, free_may}
use Rattle.wb_log.proofs.Granted.{sets_back, leaves_others}
use Rattle.wb_log.proofs.Seen.{same_seen}
use Rattle.wb_log.proofs.Valid.{keeps_valid, undone_well_formed}
use Rattle.wb_log.proofs.log.Log.undo_free.Goals as goal

pub index_mut-requires : goal.index_mut-requires
index_mut-requires g c =
    let es = c.self.inside.entries.items in
    let b = c.self.inside.book in
    let at = c.args.at in
    let free = subst (λ p. IsFree (meant p.entries) at) (sym c.self.view_is) c.requires in
    let low = free_here b.cells es c.self.invariant.shows at free in
    subst (λ n. at < n) (sym c.self.inside.entries.ok.0) low

pub take_back-requires-clause-few : goal.take_back-requires-clause-few
take_back-requires-clause-few g c = λ _ _.
    let es = c.self.inside.entries.items in
    let b = c.self.inside.book in
    let at = c.args.at in
    let free = subst (λ p. IsFree (meant p.entries) at) (sym c.self.view_is) c.requires in
    let low = free_here b.cells es c.self.invariant.shows at free in
    omega (arith, low, c.self.inside.entries.ok.0)

pub take_back-requires-clause-well_formed : goal.take_back-requires-clause-well_formed
take_back-requires-clause-well_formed g c = λ _ _.
    let es = c.self.inside.entries.items in
    let b = c.self.inside.book in
    let at = c.args.at in
    let free = subst (λ p. IsFree (meant p.entries) at) (sym c.self.view_is) c.requires in
    let low = free_here b.cells es c.self.invariant.shows at free in
    let x = c.index_mut.result.now in
    let is = slice_get-get_or es at x low ∙ ap Some (sym c.index_mut.ensures.value) in
    undone_well_formed es b.cells at x c.self.invariant.shows c.self.invariant.valid is (free_may b.cells es c.self.invariant.shows at free)

pub invariant_of-self : goal.invariant_of-self
invariant_of-self g c =
    let es = c.self.inside.entries.items in
    let b = c.self.inside.book in
    let at = c.args.at in
    let free = subst (λ p. IsFree (meant p.entries) at) (sym c.self.view_is) c.requires in
    let low = free_here b.cells es c.self.invariant.shows at free in
    let x = c.index_mut.result.now in
    let is = slice_get-get_or es at x low ∙ ap Some (sym c.index_mut.ensures.value) in
    let r = c.take_back.result in
    let y = c.take_back.new.entry in
    let d = c.take_back.new.book in
    let may = free_may b.cells es c.self.invariant.shows at free in
    let told = c.take_back.ensures in
    record {
      shows = undone_kept es at x is r y b d c.self.invariant.shows may told.ok told.entry_stays told.book_stays;
      valid = keeps_valid false at es (slice_set es at y) r c.self.invariant.valid (undone_numbers es at x is r y b d told.ok) (stay_numbers es at x is r y told.entry_stays);
      indexed = undone_indexed es at x is low c.self.inside.index c.take_back.new.index r y b d c.self.invariant.indexed told.ok told.taken told.entry_stays told.index_stays;
    }

pub returns-clause-reply : goal.returns-clause-reply
returns-clause-reply g c =
    let es = c.self.inside.entries.items in
    let b = c.self.inside.book in
    let at = c.args.at in
    let free = subst (λ p. IsFree (meant p.entries) at) (sym c.self.view_is) c.requires in
    let low = free_here b.cells es c.self.invariant.shows at free in
    let x = c.index_mut.result.now in
    let is = slice_get-get_or es at x low ∙ ap Some (sym c.index_mut.ensures.value) in
    let r = c.take_back.result in
    let y = c.take_back.new.entry in
    let d = c.take_back.new.book in
    let may = free_may b.cells es c.self.invariant.shows at free in
    subst (λ p. UndoReply (meant p.entries) at r) c.self.view_is
    (undone_reply es at x is r y b d c.self.invariant.shows may c.take_back.ensures.ok c.take_back.ensures.why)

pub returns-clause-entries : goal.returns-clause-entries
returns-clause-entries g c =
    let es = c.self.inside.entries.items in
    let b = c.self.inside.book in
    let at = c.args.at in
    let free = subst (λ p. IsFree (meant p.entries) at) (sym c.self.view_is) c.requires in
    let low = free_here b.cells es c.self.invariant.shows at free in
    let x = c.index_mut.result.now in
    let is = slice_get-get_or es at x low ∙ ap Some (sym c.index_mut.ensures.value) in
    let r = c.take_back.result in
    let y = c.take_back.new.entry in
    let d = c.take_back.new.book in
    subst (λ p. OnOk r (numbered_entries (slice_set es at y) ≡ out_of_force at p.entries)) c.self.view_is (undone_numbers es at x is r y b d c.take_back.ensures.ok)

pub returns-clause-set_back : goal.returns-clause-set_back
returns-clause-set_back g c =
    let es = c.self.inside.entries.items in
    let b = c.self.inside.book in
    let at = c.args.at in
    let free = subst (λ p. IsFree (meant p.entries) at) (sym c.self.view_is) c.requires in
    let low = free_here b.cells es c.self.invariant.shows at free in
    let x = c.index_mut.result.now in
    let is = slice_get-get_or es at x low ∙ ap Some (sym c.index_mut.ensures.value) in
    let r = c.take_back.result in
    let y = c.take_back.new.entry in
    let d = c.take_back.new.book in
    let may = free_may b.cells es c.self.invariant.shows at free in
    let fs = slice_set es at y in
    let reply = undone_reply es at x is r y b d c.self.invariant.shows may c.take_back.ensures.ok c.take_back.ensures.why in
    subst (λ p. OnOk r (SetsBack (meant p.entries) at (entries_meant fs))) c.self.view_is
    (sets_back b.cells es (numbered_entries fs) c.self.invariant.shows at r reply (undone_numbers es at x is r y b d c.take_back.ensures.ok))

pub returns-clause-others : goal.returns-clause-others
returns-clause-others g c =
    let es = c.self.inside.entries.items in
    let b = c.self.inside.book in
    let at = c.args.at in
    let free = subst (λ p. IsFree (meant p.entries) at) (sym c.self.view_is) c.requires in
    let low = free_here b.cells es c.self.invariant.shows at free in
    let x = c.index_mut.result.now in
    let is = slice_get-get_or es at x low ∙ ap Some (sym c.index_mut.ensures.value) in
    let r = c.take_back.result in
    let y = c.take_back.new.entry in
    let d = c.take_back.new.book in
    let may = free_may b.cells es c.self.invariant.shows at free in
    let fs = slice_set es at y in
    let reply = undone_reply es at x is r y b d c.self.invariant.shows may c.take_back.ensures.ok c.take_back.ensures.why in
    subst (λ p. OnOk r (LeavesOthers (meant p.entries) at (entries_meant fs))) c.self.view_is
    (leaves_others b.cells es (numbered_entries fs) c.self.invariant.shows at r reply (undone_numbers es at x is r y b d c.take_back.ensures.ok))

pub returns-clause-err : goal.returns-clause-err
returns-clause-err g c =
    let es = c.self.inside.entries.items in
    let b = c.self.inside.book in
    let at = c.args.at in
    let free = subst (λ p. IsFree (meant p.entries) at) (sym c.self.view_is) c.requires in
    let low = free_here b.cells es c.self.invariant.shows at free in
    let x = c.index_mut.result.now in
    let is = slice_get-get_or es at x low ∙ ap Some (sym c.index_mut.ensures.value) in
    let r = c.take_back.result in
    let y = c.take_back.new.entry in
    let d = c.take_back.new.book in
    let now : Past = record { entries = numbered_entries (slice_set es at y); writes = d.writes } in
    subst (λ p. OnErr r (now ≡ p)) c.self.view_is
    (same_seen r es (slice_set es at y) b d (stay_numbers es at x is r y c.take_back.ensures.entry_stays) c.take_back.ensures.book_stays)

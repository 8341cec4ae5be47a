use Rattle.std.proofs.Common.{◌+◌, Some, Ok, Err, ap, sym, subst, ◌∙◌}
use Rattle.std.proofs.lemmas.Option.{slice_get-get_or}
use Rattle.wb_edit.specs.declared.refusal.Refusal.TheVariants.{NotInForce, NoMemory}
use Rattle.wb_log.specs.Cascades.{DependentsReply}
use Rattle.wb_log.specs.Kept.{by_number}
use Rattle.wb_log.specs.Needed.{AreFromFootprints}
use Rattle.wb_log.specs.Past.{meant}
use Rattle.wb_log.proofs.Seen.{place_in}
use Rattle.wb_log.proofs.Undoings.{out_of_force_reply, dependents_reply, no_room_reply}
use Rattle.wb_log.proofs.log.Log.dependents_at.Goals.{in-Ok, in-Err}
use Rattle.wb_log.proofs.log.Log.dependents_at.Goals as goal

pub returns-then-not-is_in_force-clause-why : goal.returns-then-not-is_in_force-clause-why
returns-then-not-is_in_force-clause-why c =
    let es = c.self.inside.entries.items in
    let at = c.args.at in
    let low = place_in es c.self.inside.book.writes at c.args.self.now c.self.view_is c.requires in
    let x = c.index.result.now in
    let is = slice_get-get_or es at x low ∙ ap Some (sym c.index.ensures) in
    subst (λ p. DependentsReply (meant p.entries) at (Err NotInForce)) c.self.view_is
    (out_of_force_reply c.self.inside.book.cells es at x c.self.invariant.shows is (sym c.is_in_force.ensures ∙ c.if-not-is_in_force.true))

pub returns-clause-reply : goal.returns-clause-reply
returns-clause-reply c =
    let es = c.self.inside.entries.items in
    let at = c.args.at in
    let low = place_in es c.self.inside.book.writes at c.args.self.now c.self.view_is c.requires in
    let x = c.index.result.now in
    let is = slice_get-get_or es at x low ∙ ap Some (sym c.index.ensures) in
    let on = sym c.is_in_force.ensures ∙ c.if-not-is_in_force.false in
    elim c.match-needing.branch [
      | in-Ok w ↦
          let ns = w.in-Ok.found.items in
          let found = subst (λ es. AreFromFootprints (by_number es) (at + 1) ns) c.deref.ensures.value w.in-Ok.ensures.found in
          rw w.result-is (subst (λ p. DependentsReply (meant p.entries) at (Ok ns)) c.self.view_is
          (dependents_reply c.self.inside.book.cells es at x c.self.invariant.shows is on ns found))
      | in-Err w ↦ rw w.result-is tt
    ]

pub returns-clause-why : goal.returns-clause-why
returns-clause-why c =
    let es = c.self.inside.entries.items in
    let at = c.args.at in
    let low = place_in es c.self.inside.book.writes at c.args.self.now c.self.view_is c.requires in
    let x = c.index.result.now in
    let is = slice_get-get_or es at x low ∙ ap Some (sym c.index.ensures) in
    let on = sym c.is_in_force.ensures ∙ c.if-not-is_in_force.false in
    elim c.match-needing.branch [
      | in-Ok w ↦ rw w.result-is tt
      | in-Err w ↦ rw w.result-is (subst (λ p. DependentsReply (meant p.entries) at (Err NoMemory)) c.self.view_is
          (no_room_reply c.self.inside.book.cells es at x c.self.invariant.shows is on))
    ]

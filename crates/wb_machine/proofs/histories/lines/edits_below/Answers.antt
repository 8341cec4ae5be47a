use Rattle.std.proofs.Common.{◌≡◌, ◌∙◌, Bool, IfSome, Ok, Some, [], ◌∷◌, ap, subst, sym}
use Rattle.std.proofs.lemmas.List.{map-append}
use Rattle.wb_edit.specs.declared.edit.Edit.{Edit}
use Rattle.wb_history.specs.Past.{pair_back}
use Rattle.wb_history.specs.Restored.{marked}
use Rattle.wb_requests.specs.Requests.{request}
use Rattle.wb_requests.specs.declared.requests.request.Request.TheVariants.{Change}
use Rattle.wb_machine.specs.Histories.Text.{AreAsked}
use Rattle.wb_machine.specs.Histories.Lines.{ReadsEdits}
use Rattle.wb_machine.proofs.HistoryTexts.Asked.{asked_with, asked_reverse}
use Rattle.wb_machine.proofs.HistoryTexts.Steps.{Left, all_read, no_edit, left_next, map_reverse}
use Rattle.wb_machine.proofs.histories.lines.edits_below.Goals as goal

pub returns-in_default-marked_at-clause-read : goal.returns-in_default-marked_at-clause-read
returns-in_default-marked_at-clause-read c =
    let items = c.loop-before.edits.items in
    subst (λ xs. ReadsEdits c.args.bytes.now (Some xs)) (sym (ap marked c.reversed.ensures ∙ map_reverse pair_back items))
    (all_read c.args.bytes.now c.loop-before.rest.now c.in-Some.before.now c.in-Some.line.now (marked items) c.loop-before.invariant.left c.in-Some.ensures
    (sym c.in_default-marked_at.ensures))

pub returns-in_default-marked_at-clause-asked : goal.returns-in_default-marked_at-clause-asked
returns-in_default-marked_at-clause-asked c =
    let items = c.loop-before.edits.items in
    subst AreAsked (sym (ap marked c.reversed.ensures ∙ map_reverse pair_back items)) (asked_reverse (marked items) c.loop-before.invariant.asked)

pub returns-in_default-2-clause-read : goal.returns-in_default-2-clause-read
returns-in_default-2-clause-read c =
    no_edit c.args.bytes.now c.loop-before.rest.now c.in-Some.before.now c.in-Some.line.now c.in-Some-marked_at.request.now (marked c.loop-before.edits.items)
    c.in-Some-marked_at.in_force
    c.loop-before.invariant.left c.in-Some.ensures (sym c.in-Some-marked_at.ensures) (λ e h. sym c.in_default-2.is ∙ c.in_ok-edit.ensures.read e h)

pub loop-before-preserved : goal.loop-before-preserved
loop-before-preserved c =
    let items = c.loop-before.edits.items in
    let one : Edit × Bool = (c.in-Some-2.edit, c.in-Some-marked_at.in_force) in
    let more = ap marked c.in_ok-keep.ensures ∙ map-append pair_back items (one ∷ []) in
    let line = c.in-Some-marked_at.request.now in
    let is = subst (λ r. IfSome r (λ e. request line ≡ Ok (Change e))) c.in-Some-2.is c.in_ok-edit.ensures.asked in
    record {
      left = subst (λ xs. Left c.args.bytes.now c.in-Some.before.now xs) (sym more)
          (left_next c.args.bytes.now c.loop-before.rest.now c.in-Some.before.now c.in-Some.line.now line (marked items) c.in-Some-marked_at.in_force
          c.in-Some-2.edit
          c.loop-before.invariant.left c.in-Some.ensures (sym c.in-Some-marked_at.ensures) (λ e h. sym c.in-Some-2.is ∙ c.in_ok-edit.ensures.read e h));
      asked = subst AreAsked (sym more) (asked_with (marked items) (pair_back one) c.loop-before.invariant.asked (line, is));
    }

use Rattle.std.proofs.Common.{◌≡◌, ◌∙◌, IfSome, Ok, rules, subst, sym}
use Rattle.std.specs.Cmp.Lexicographic.{other_text}
use Rattle.wb_history.specs.Restored.{one_of}
use Rattle.wb_requests.specs.Requests.{request}
use Rattle.wb_requests.specs.declared.requests.request.Request.TheVariants.{Change}
use Rattle.wb_machine.specs.Histories.Text.{said}
use Rattle.wb_sessions.proofs.LinesLeft.{is_said, no_edit, not_said, unmarked}
use Rattle.wb_sessions.proofs.places.edit_said.Goals as goal

pub returns-in_default-clause-none : goal.returns-in_default-clause-none
returns-in_default-clause-none c x told e = unmarked c.args.line.now c.in_default.ensures x e

pub returns-in_default-2-clause-none : goal.returns-in_default-2-clause-none
returns-in_default-2-clause-none c =
    no_edit c.args.line.now c.in-Some.spelled.now c.in-Some.in_force c.in-Some.ensures (λ e h. sym c.in_default-2.is ∙ c.in_ok-edit.ensures.read e h)

pub returns-then-eq-clause-some : goal.returns-then-eq-clause-some
returns-then-eq-clause-some c =
    let edit = c.in-Some-2.edit in
    let mark = c.in-Some.in_force in
    let asked = subst (λ r. IfSome r (λ e. request c.in-Some.spelled.now ≡ Ok (Change e))) c.in-Some-2.is c.in_ok-edit.ensures.asked in
    let same : c.args.line.now ≡ said (one_of edit mark) = search rules in
    (is_said c.args.line.now c.in-Some.spelled.now mark edit c.in-Some.ensures asked same, same)

pub returns-clause-none : goal.returns-clause-none
returns-clause-none c =
    not_said c.args.line.now c.in-Some.spelled.now c.in-Some.in_force c.in-Some-2.edit c.in-Some.ensures
    (λ e h. sym c.in-Some-2.is ∙ c.in_ok-edit.ensures.read e h)
    (λ same. other_text c.as_bytes.result.now c.args.line.now c.if-eq.ensures (c.as_bytes.ensures.value ∙ c.in_ok-canonical.ensures ∙ sym same))

-- A set, a get and an undo of the latest, found by their members in turn.
use Rattle.std.proofs.Common.{◌≡◌, ℕ, List, String, Result, Ok, None, refl, sym, ap, ◌∙◌, codes}
use Rattle.std.specs.declared.alloc.Global.{Global}
use Rattle.serde_json.proofs.OnLiterals.{serde_json_on_literals}
use Rattle.serde_json.specs.Data.{Data, member}
use Rattle.serde_json.specs.View.{view, members_view}
use Rattle.serde_json.specs.declared.value.Value.{Value}
use Rattle.wb_edit.specs.declared.refusal.Refusal.{Refusal}
use Rattle.wb_requests.specs.Answers.{IsAnswer}
use Rattle.wb_requests.specs.InTurn.{Leads, set_data, get_data, undo_data, set_with, get_with}
use Rattle.wb_requests.specs.Requests.{request_of}
use Rattle.wb_requests.specs.declared.requests.request.Request.{Request}
use Rattle.wb_requests.specs.declared.requests.request.Request.TheVariants.{Undo}
use Rattle.wb_requests.proofs.Lines.{as_answer}

-- members that begin with one
pub led : (members rest : List (String Global × Value)) (key : List ℕ) (value : Value) → Leads members key value rest
    → members_view members ≡ member key (view value) (members_view rest)
led members rest key value h = ap members_view h.1.1 ∙ ap (λ k. member k (view value) (members_view rest)) h.1.0

set_is : (a i v : Data) → request_of (set_data a i v) ≡ set_with a i v
unfolding serde_json_on_literals
set_is a i v = refl

get_is : (a i : Data) → request_of (get_data a i) ≡ get_with a i
unfolding serde_json_on_literals
get_is a i = refl

undo_is : request_of undo_data ≡ Ok (Undo None)
unfolding serde_json_on_literals
undo_is = refl

pub set_answer : (d a i v : Data) (r : Result Request Refusal) → d ≡ set_data a i v → r ≡ set_with a i v → IsAnswer (request_of d) r
set_answer d a i v r is asked = as_answer (request_of d) r (asked ∙ sym (set_is a i v) ∙ ap request_of (sym is))

pub get_answer : (d a i : Data) (r : Result Request Refusal) → d ≡ get_data a i → r ≡ get_with a i → IsAnswer (request_of d) r
get_answer d a i r is asked = as_answer (request_of d) r (asked ∙ sym (get_is a i) ∙ ap request_of (sym is))

pub undo_answer : (d : Data) (r : Result Request Refusal) → d ≡ undo_data → r ≡ Ok (Undo None) → IsAnswer (request_of d) r
undo_answer d r is asked = as_answer (request_of d) r (asked ∙ sym undo_is ∙ ap request_of (sym is))

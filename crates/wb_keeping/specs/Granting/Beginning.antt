-- The line that a history begins with.
use Rattle.std.proofs.Common.{◌≡◌, inl, inr, ℕ, Bool, if◌then◌else◌, List, [], ◌∷◌, Some, Result, Ok, Err, refl, sym, ◌∙◌, ap, subst}
use Rattle.serde_json.specs.Read.{read}
use Rattle.wb_kept.specs.Runs.{Leads}
use Rattle.wb_history.specs.Past.{Numbered, Past}
use Rattle.wb_edit.specs.declared.refusal.Refusal.{Refusal}
use Rattle.wb_edit.specs.declared.refusal.Refusal.TheVariants.{BadRequest}
use Rattle.wb_requests.specs.Requests.{request, request_of, of_json}
use Rattle.wb_requests.specs.declared.requests.request.Request.{Request}
use Rattle.wb_requests.specs.declared.requests.request.Request.TheVariants.{Change, Undo, Redo}
use Rattle.wb_requests.specs.Wire.Encoded.{request_line}
use Rattle.wb_machine.specs.Machine.{StepIfRead}
use Rattle.wb_machine.specs.Replies.{reply_of}
use Rattle.wb_machine.specs.declared.replies.reply.Reply.{Reply}
use Rattle.wb_machine.specs.declared.replies.reply.Reply.TheVariants.{Edited, Undone, Redone}
use Rattle.wb_machine.specs.Histories.Text.{history_text, AreSaid, AreAsked}
use Rattle.wb_machine.proofs.HistoryTexts.Same as same
use Rattle.wb_machine.proofs.HistoryTexts.KeptAsked.{keeps_asked}
use Rattle.wb_keeping.specs.Granting.Granting.{GrantsRequest, GrantsAsked, Grants, Begins, no_edit, resume_data}

-- ---- it is no request

no_op : (text : List ℕ) → request_of (resume_data text) ≡ Err BadRequest
no_op text = refl

pub no_request : (line : List ℕ) (q : Past) → Begins line q → request line ≡ Err BadRequest
no_request line q begun =
    ap (λ (b : Bool). if b then of_json (read line) else Err BadRequest) begun.utf8 ∙ ap of_json begun.json ∙ no_op (history_text q.entries)

pub never_both : (p : Past) (line : List ℕ) (q u : Past) → GrantsAsked p line q → Begins line u → ⊥
never_both p line q u (asked, is, granted) begun = let both : ◌≡◌ {A = Result Request Refusal} (Ok asked) (Err BadRequest) = sym is ∙ no_request line u begun in cc

-- ---- it leads to one history

text_one : (s t : List ℕ) → Some (resume_data s) ≡ Some (resume_data t) → s ≡ t
text_one s t h = cc

pub begun_one : (line : List ℕ) (q u : Past) → Begins line q → Begins line u → q.entries ≡ u.entries
begun_one line q u begun other =
    same.one_history q.entries u.entries begun.history other.history (text_one (history_text q.entries) (history_text u.entries) (sym begun.json ∙ other.json))

-- ---- each edit was asked for by a line

said_asked : (es : List Numbered) → AreSaid es → AreAsked es
said_asked [] said = tt
said_asked (x ∷ es) said = ((request_line (Change x.edit), said.0), said_asked es said.1)

module _ (p : Past) (line : List ℕ) (q : Past) (asked : AreAsked p.entries) where
  answered : (x : Request) (reply : Reply) → request line ≡ Ok x → StepIfRead p (Ok x) reply q → AreAsked q.entries
  answered x reply is step =
      keeps_asked p q line (reply_of reply)
      (record { reply = reply; is_reply = inl (subst (λ (r : Result Request Refusal). StepIfRead p r reply q) (sym is) step); is_text = refl })
      asked

  granted_asked : (x : Request) → request line ≡ Ok x → GrantsRequest p x q → AreAsked q.entries
  granted_asked (Change e) is (k, n, step) = answered (Change e) (Edited k n) is step
  granted_asked (Undo (Some k)) is (n, step) = answered (Undo (Some k)) (Undone k n) is step
  granted_asked (Redo k) is (n, step) = answered (Redo k) (Redone k n) is step
  granted_asked x is granted = absurd granted

  change_asked : Grants p line q → AreAsked q.entries
  change_asked (inl (x, is, granted)) = granted_asked x is granted
  change_asked (inr begun) = said_asked q.entries begun.1.history.1

all_asked : (lines : List (List ℕ)) (p q : Past) → AreAsked p.entries → Leads Grants p lines q → AreAsked q.entries
all_asked [] p q asked leads = subst (λ (x : Past). AreAsked x.entries) (sym leads) asked
all_asked (line ∷ lines) p q asked (mid, change, leads) = all_asked lines mid q (change_asked p line mid asked change) leads

pub lines_ask : (lines : List (List ℕ)) (q : Past) → Leads Grants no_edit lines q → AreAsked q.entries
lines_ask lines q leads = all_asked lines no_edit q tt leads

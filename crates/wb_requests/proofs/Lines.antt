-- What a line is, by what the JSON crate said of it, and what is no transaction by its op.
use Rattle.std.proofs.Common.{◌≡◌, ◌≢◌, ℕ, List, Bool, true, false, Some, None, Result, Ok, Err, IfOk, IfErr, refl, ap, sym, ◌∙◌, subst, codes, if◌then◌else◌}
use Rattle.std.specs.Prelude.{bytes_eq}
use Rattle.std.specs.Str.{IsUtf8, is_utf8}
use Rattle.std.proofs.lemmas.Str.{IsUtf8-from_is_utf8, is_utf8-from_IsUtf8}
use Rattle.serde_json.specs.Data.{Data}
use Rattle.serde_json.specs.Read.{read}
use Rattle.wb_edit.specs.declared.refusal.Refusal.{Refusal}
use Rattle.wb_edit.specs.declared.refusal.Refusal.TheVariants.{BadRequest, NoMemory}
use Rattle.wb_requests.specs.Answers.{IsAnswer}
use Rattle.wb_requests.specs.Requests.{by_single_op, transaction_of, by_op, request, request_of, of_json}
use Rattle.wb_requests.specs.declared.requests.request.Request.{Request}
use Rattle.wb_requests.proofs.OnTheWire.Members.{equal_key}

pub json_line : (line : List ℕ) (d : Data) → IsUtf8 line → read line ≡ Some d → request line ≡ request_of d
json_line line d u e = rw (is_utf8-from_IsUtf8 line u) (ap of_json e)

by_utf8 : (b : Bool) (line : List ℕ) → is_utf8 line ≡ b → (IsUtf8 line → read line ≡ None) → request line ≡ Err BadRequest
by_utf8 true line e h = rw e (ap of_json (h (IsUtf8-from_is_utf8 line e)))
by_utf8 false line e h = rw e refl

pub no_json_line : (line : List ℕ) → (IsUtf8 line → read line ≡ None) → request line ≡ Err BadRequest
no_json_line line h = by_utf8 (is_utf8 line) line refl h

-- what is equal to the wanted answer is an answer
pub as_answer : {X : Type 0} (w r : Result X Refusal) → r ≡ w → IsAnswer w r
as_answer w (Ok x) e = sym e
as_answer w (Err why) e = λ h. sym e

pub as_ok : {X : Type 0} (v w r : Result X Refusal) → v ≡ w → IsAnswer w r → IfOk r (λ x. v ≡ Ok x)
as_ok v w (Ok x) e a = e ∙ a
as_ok v w (Err why) e a = tt

pub as_err : {X : Type 0} (v w r : Result X Refusal) → v ≡ w → IsAnswer w r → IfErr r (λ why. why ≢ NoMemory → v ≡ Err why)
as_err v w (Ok x) e a = tt
as_err v w (Err why) e a = λ h. e ∙ a h

other_word : (op w : List ℕ) → (op ≡ w → ⊥) → bytes_eq op w ≡ false
other_word op w n = elim (bytes_eq op w) as (λ b. bytes_eq op w ≡ b → b ≡ false) [
  | true ↦ λ e. absurd (n (equal_key op w e))
  | false ↦ λ e. refl
] refl

-- what has another op is no transaction
pub by_other_op : (op : List ℕ) (d : Data) (r : Result Request Refusal) → (op ≡ codes "transaction" → ⊥) → IsAnswer (by_single_op op d) r → IsAnswer (by_op op d) r
by_other_op op d r n a =
    subst (λ (b : Bool). IsAnswer (if b then transaction_of d else by_single_op op d) r) (sym (other_word op (codes "transaction") n)) a

-- At most one answer to the question for the dependents of an edit fits a history.
use Rattle.std.proofs.Common.{◌≡◌, ◌≢◌, ℕ, zero, suc, List, [], ◌∷◌, Some, None, Result, Ok, Err, slice_get, inl, inr, refl, sym, ap, ◌∙◌, subst, arith}
use Rattle.selective_undo.specs.Edit.{EditTree, Trace}
use Rattle.selective_undo.specs.History.{Entry, undone, traces, InForce, Has, Falls}
use Rattle.wb_cells.specs.Schema.{workbook}
use Rattle.wb_log.specs.Cascades.{AreDependents, DependentsReply}
use Rattle.wb_edit.specs.declared.refusal.Refusal.{Refusal}
use Rattle.wb_edit.specs.declared.refusal.Refusal.TheVariants.{BadRequest, BadLiteral, Refused, NoSuchEdit, NotInForce, InForce as IsInForce, Blocked}
use Rattle.wb_edit.specs.declared.refusal.Refusal.TheVariants.{RefusedInPlace, NoMemory, StrangePass}
use Rattle.wb_history.proofs.OneAnswer.{none_some, granted_missing, granted_out}
use Rattle.wb_history.specs.ReplyLaws.{DependentsAnswerLaw}

-- two falling lists of the same numbers
top : (m n : ℕ) (ms ns : List ℕ) → Falls (m ∷ ms) → Has (n ∷ ns) m → Falls (n ∷ ns) → Has (m ∷ ms) n → m ≡ n
top m n ms ns falls here also there =
    elim here [
      | inl same ↦ same
      | inr further ↦ elim there [ inl same ↦ sym same | inr more ↦ absurd (omega (arith, also.0 m further, falls.0 n more)) ]
    ]

below : (n : ℕ) (ms ns : List ℕ) → Falls (n ∷ ms) → ((j : ℕ) → Has (n ∷ ms) j → Has (n ∷ ns) j) → (j : ℕ) → Has ms j → Has ns j
below n ms ns falls all j has = elim (all j (inr has)) [ inl same ↦ absurd (omega (arith, falls.0 j has, same)) | inr there ↦ there ]

one_list : (ms ns : List ℕ) → Falls ms → Falls ns → ((j : ℕ) → Has ms j → Has ns j) → ((j : ℕ) → Has ns j → Has ms j) → ms ≡ ns
one_list [] [] falls also to from = refl
one_list [] (n ∷ ns) falls also to from = absurd (from n (inl refl))
one_list (m ∷ ms) [] falls also to from = absurd (to m (inl refl))
one_list (m ∷ ms) (n ∷ ns) falls also to from =
    let same = top m n ms ns falls (to m (inl refl)) also (from n (inl refl)) in
    let falls' : Falls (n ∷ ms) = subst (λ k. Falls (k ∷ ms)) same falls in
    let to' : (j : ℕ) → Has (n ∷ ms) j → Has (n ∷ ns) j = subst (λ k. (j : ℕ) → Has (k ∷ ms) j → Has (n ∷ ns) j) same to in
    let from' : (j : ℕ) → Has (n ∷ ns) j → Has (n ∷ ms) j = subst (λ k. (j : ℕ) → Has (n ∷ ns) j → Has (k ∷ ms) j) same from in
    ap (λ (k : ℕ). k ∷ ms) same ∙ ap (λ (ks : List ℕ). n ∷ ks) (one_list ms ns falls.1 also.1 (below n ms ns falls' to') (below n ns ms also from'))

module _ (es : List (Entry workbook)) (k : ℕ) where
  data ListCause : Type 0 where
    listed : (t : Trace workbook) → InForce (traces es) k t → (ns : List ℕ) → AreDependents (traces es) k ns → ListCause
    missing : slice_get es k ≡ None → ListCause
    out : (e : EditTree workbook) → slice_get es k ≡ Some (undone e) → ListCause

  abbrev list_answer : ListCause → Result (List ℕ) Refusal
  list_answer (listed t there ns are) = Ok ns
  list_answer (missing none) = Err NoSuchEdit
  list_answer (out e off) = Err NotInForce

  list_cause : (r : Result (List ℕ) Refusal) → DependentsReply es k r → r ≢ Err NoMemory → (c : ListCause) × (r ≡ list_answer c)
  list_cause (Ok ns) ((t, there), are) memory = (listed t there ns are, refl)
  list_cause (Err NoSuchEdit) none memory = (missing none, refl)
  list_cause (Err NotInForce) (e, off) memory = (out e off, refl)
  list_cause (Err NoMemory) reply memory = absurd (memory refl)
  list_cause (Err (Blocked by)) reply memory = absurd reply
  list_cause (Err BadRequest) reply memory = absurd reply
  list_cause (Err BadLiteral) reply memory = absurd reply
  list_cause (Err StrangePass) reply memory = absurd reply
  list_cause (Err (Refused e)) reply memory = absurd reply
  list_cause (Err IsInForce) reply memory = absurd reply
  list_cause (Err (RefusedInPlace e)) reply memory = absurd reply

  list_same : (c d : ListCause) → list_answer c ≡ list_answer d
  list_same (listed t there ms are) (listed u also ns same) =
      ap Ok (one_list ms ns are.0 same.0 (λ j has. (same.1 j).1 ((are.1 j).0 has)) (λ j has. (are.1 j).1 ((same.1 j).0 has)))
  list_same (listed t there ns are) (missing none) = absurd (granted_missing es k t there none)
  list_same (listed t there ns are) (out e off) = absurd (granted_out es k t there e off)
  list_same (missing none) (listed t there ns are) = absurd (granted_missing es k t there none)
  list_same (missing none) (missing same) = refl
  list_same (missing none) (out e off) = absurd (none_some none off)
  list_same (out e off) (listed t there ns are) = absurd (granted_out es k t there e off)
  list_same (out e off) (missing none) = absurd (none_some none off)
  list_same (out e off) (out d same) = refl

  one_listed : (r q : Result (List ℕ) Refusal) → DependentsReply es k r → DependentsReply es k q → r ≢ Err NoMemory → q ≢ Err NoMemory → r ≡ q
  one_listed r q fits also memory room =
      let c = list_cause r fits memory in
      let d = list_cause q also room in
      c.1 ∙ list_same c.0 d.0 ∙ sym d.1

pub dependents_answer_law : DependentsAnswerLaw
dependents_answer_law es zero r q fits also memory room = fits ∙ sym also
dependents_answer_law es (suc k) r q fits also memory room = one_listed es k r q fits also memory room

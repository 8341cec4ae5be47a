-- What every accepted edit keeps holds after every legal history.
use Rattle.std.proofs.Common.{◌≡◌, ℕ, zero, suc, true, List, [], ◌∷◌, Some, IsOk, refl, slice_get}
use Rattle.std.specs.FinMap.{empty}
use Rattle.selective_undo.specs.Edit.{Schema, State, EditTree, Trace, outcome, step}
use Rattle.selective_undo.specs.History.{Entry, done, undone, edit_of, replay_from, traces_from, replay, InForce, IsLegal}
use Rattle.selective_undo.specs.Laws.{InvariantLaw}

module _ {w : Schema} (Allowed : EditTree w → Type 0) (Good : State w → Type 0)
    (keeps : (e : EditTree w) (s : State w) → Allowed e → Good s → IsOk (outcome e s) → Good (step e s)) where
  good_from : (h : List (Entry w)) (s : State w) → Good s → ((k : ℕ) (t : Trace w) → InForce (traces_from h s) k t → IsOk t.outcome)
      → ((k : ℕ) (x : Entry w) → slice_get h k ≡ Some x → Allowed (edit_of x)) → Good (replay_from h s)
  good_from [] s good legal allowed = good
  good_from (done e ∷ h) s good legal allowed =
      good_from h (step e s) (keeps e s (allowed zero _ refl) good (legal zero _ refl)) (λ k t is. legal (suc k) t is) (λ k x is. allowed (suc k) x is)
  good_from (undone e ∷ h) s good legal allowed =
      good_from h s good (λ k t is. legal (suc k) t is) (λ k x is. allowed (suc k) x is)

  pub good_replay : Good empty → (h : List (Entry w)) → IsLegal h → ((k : ℕ) (x : Entry w) → slice_get h k ≡ Some x → Allowed (edit_of x)) → Good (replay h)
  good_replay first h legal allowed = good_from h empty first legal allowed

pub invariant_law : (w : Schema) → InvariantLaw w
invariant_law w allowed good first keeps h legal all = good_replay (λ e. allowed e ≡ true) (λ s. good s ≡ true) keeps first h legal all

-- The request of a number for each index of ranges, by how many numbers there are.
use Rattle.std.proofs.Common.{◌≡◌, ℤ, Bool, true, false, List, length, Result, Ok, Err, refl, nat_eq, if◌then◌else◌, eq-eqb, eqb-true}
use Rattle.wb_cells.specs.Cells.{Name}
use Rattle.wb_cells.specs.Shapes.{Range, indices}
use Rattle.wb_edit.specs.declared.asked_numbers.AskedNumbers.TheVariants.{Rectangle as numbered}
use Rattle.wb_edit.specs.declared.command.Command.TheVariants.{Put}
use Rattle.wb_edit.specs.declared.refusal.Refusal.{Refusal}
use Rattle.wb_edit.specs.declared.refusal.Refusal.TheVariants.{BadRequest}
use Rattle.wb_requests.specs.Requests.{of_command, put_on}
use Rattle.wb_requests.specs.declared.requests.request.Request.{Request}

pub put_counted : (name : Name) (on : List Range) (vs : List ℤ) → length vs ≡ length (indices on) → Ok (of_command (Put name (numbered (on, vs)))) ≡ put_on name on vs
put_counted name on vs e = rw (eq-eqb (length vs) (length (indices on)) e) refl

uncounted_by : (b : Bool) (r : Request) → (b ≡ true → ⊥) → ◌≡◌ {A = Result Request Refusal} (Err BadRequest) (if b then Ok r else Err BadRequest)
uncounted_by true r h = absurd (h refl)
uncounted_by false r h = refl

pub put_uncounted : (name : Name) (on : List Range) (vs : List ℤ) → (length vs ≡ length (indices on) → ⊥) → Err BadRequest ≡ put_on name on vs
put_uncounted name on vs h =
    uncounted_by (nat_eq (length vs) (length (indices on))) (of_command (Put name (numbered (on, vs)))) (λ e. h (eqb-true (length vs) (length (indices on)) e))

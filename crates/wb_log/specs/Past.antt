-- A history: its edits in the order of their numbers, each in force or out of force.
use Rattle.std.specs.Prelude.{◌≡◌, ℕ, zero, suc, Bool, true, false, List, [], ◌∷◌, map, Option, None, option_map, slice_get, refl, ⊤}
use Rattle.std.proofs.Common.{ap}
use Rattle.std.specs.Coded.{Coded, code_by, coded×, coded_list, coded_bool, coded_ℕ}
use Rattle.selective_undo.specs.History as h
use Rattle.wb_edit.specs.contracts.edit.Edit as edit_row
use Rattle.wb_edit.specs.declared.edit.Edit as command
use Rattle.wb_cells.specs.Schema.{workbook}
use Rattle.wb_edit.specs.Edits.{meaning}
use Rattle.wb_edit.specs.Edits.{IsValid}

-- an edit of a history, with whether it is in force
pub record Numbered : Type 0 where
  pub edit : command.Edit
  pub in_force : Bool

abbrev pub pair_back : command.Edit × Bool → Numbered
pair_back p = record { edit = p.0; in_force = p.1 }

pub pairs_back : (es : List Numbered) → map pair_back (map (λ x. (x.edit, x.in_force)) es) ≡ es
pairs_back [] = refl
pairs_back (x ∷ es) = ap (λ r. x ∷ r) (pairs_back es)

-- What a history shows: its edits, and how many cells were set so far.
pub record Past : Type 0 where
  pub entries : List Numbered
  pub writes : ℕ

abbrev pub past_code : Coded Past
past_code =
    code_by (List (command.Edit × Bool) × ℕ) (coded× (coded_list (coded× edit_row.the_row.coded coded_bool)) coded_ℕ)
    (λ p. (map (λ x. (x.edit, x.in_force)) p.entries, p.writes)) (λ p. record { entries = map pair_back p.0; writes = p.1 })
    (λ p. ap (λ es. record { entries = es; writes = p.writes }) (pairs_back p.entries))

abbrev pub entry_at : command.Edit → Bool → h.Entry workbook
entry_at e true = h.done (meaning e)
entry_at e false = h.undone (meaning e)

-- the history of the definitions: each edit by its meaning
abbrev pub meant : List Numbered → h.History workbook
meant es = map (λ x. entry_at x.edit x.in_force) es

-- edit k, from 0, in force or out of force
abbrev pub set_force : Bool → ℕ → List Numbered → List Numbered
set_force b k [] = []
set_force b zero (x ∷ es) = record { edit = x.edit; in_force = b } ∷ es
set_force b (suc k) (x ∷ es) = x ∷ set_force b k es

abbrev pub out_of_force : ℕ → List Numbered → List Numbered
out_of_force k es = set_force false k es

abbrev pub into_force : ℕ → List Numbered → List Numbered
into_force k es = set_force true k es

-- whether the edit of a number, from 1, is in force; none has any other number
abbrev pub force_of : List Numbered → ℕ → Option Bool
force_of es zero = None
force_of es (suc k) = option_map (λ x. x.in_force) (slice_get es k)

-- each edit is valid: its names are names, its ranges within the limits, its numbers of 64 bits
abbrev pub AreValid : List Numbered → Type 0
AreValid [] = ⊤
AreValid (x ∷ es) = IsValid x.edit × AreValid es

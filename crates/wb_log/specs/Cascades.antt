-- Undo with dependents: which edits go, in which order, and what each answer says.
use Rattle.std.specs.Prelude.{◌≡◌, ◌≢◌, ℕ, zero, suc, ◌+◌, ◌-◌, ◌^◌, ◌≤◌, false, min, length, List, [], ◌∷◌, ◌++◌, map, Option, Some, None, Result, Ok, Err, slice_get}
use Rattle.std.specs.Prelude.{◌↔◌}
use Rattle.std.specs.FinMap.{get}
use Rattle.selective_undo.specs.Edit.{EditTree, Trace, writes}
use Rattle.selective_undo.specs.History as h
use Rattle.selective_undo.specs.History.{undone, undo, traces, replay, InForce, Dependent, CanUndo, CanUndoAll, Has, Falls}
use Rattle.wb_cells.specs.declared.cells.cell.Cell.{Cell}
use Rattle.wb_cells.specs.Cells.{count_of, saturating_add}
use Rattle.wb_cells.specs.Schema.{workbook}
use Rattle.wb_edit.specs.declared.refusal.Refusal.{Refusal}
use Rattle.wb_edit.specs.declared.refusal.Refusal.TheVariants.{NoSuchEdit, NotInForce, NoMemory}
use Rattle.wb_log.specs.Past.{Numbered, meant, out_of_force}

-- the edit of a number, from 1, is a dependent of edit k, from 0
abbrev pub IsDependent : List (Option (Trace workbook)) → ℕ → ℕ → Type 0
IsDependent ts k zero = ⊥
IsDependent ts k (suc j) = Dependent ts k j

-- the numbers of the dependents of edit k, from the greatest down
abbrev pub AreDependents : List (Option (Trace workbook)) → ℕ → List ℕ → Type 0
AreDependents ts k ns = Falls ns × ((n : ℕ) → Has ns n ↔ IsDependent ts k n)

-- Edit k, from 0, is in force, and these are its dependents; or there is none, or it is out of force. Memory may run out
-- where it is in force.
abbrev pub DependentsReply : List (h.Entry workbook) → ℕ → Result (List ℕ) Refusal → Type 0
DependentsReply es k (Ok ns) = ((t : Trace workbook) × InForce (traces es) k t) × AreDependents (traces es) k ns
DependentsReply es k (Err NoSuchEdit) = slice_get es k ≡ None
DependentsReply es k (Err NotInForce) = (e : EditTree workbook) × (slice_get es k ≡ Some (undone e))
DependentsReply es k (Err NoMemory) = (t : Trace workbook) × InForce (traces es) k t
DependentsReply es k (Err why) = ⊥

-- Edits are numbered from 1.
abbrev pub OfNumber : {X : Type 0} → (ℕ → Result X Refusal → Type 0) → ℕ → Result X Refusal → Type 0
OfNumber Reply zero r = r ≡ Err NoSuchEdit
OfNumber Reply (suc k) r = Reply k r

-- the places of numbers
abbrev pub places : List ℕ → List ℕ
places ns = map (λ n. n - 1) ns

-- how many cells an edit touched, where it is in force
abbrev pub touched : Option (Option (Trace workbook)) → ℕ
touched (Some (Some t)) = count_of t.before
touched (Some None) = 0
touched None = 0

-- how many cells undos set back, one after another
abbrev pub set_back : List (h.Entry workbook) → List ℕ → ℕ
set_back es [] = 0
set_back es (k ∷ ks) = touched (slice_get (traces es) k) + set_back (undo k es) ks

-- Edit k, from 0, and its dependents are undone from the greatest down, each by an undo that is granted on its own: their
-- numbers, and how many cells are set back, up to the greatest usize. Where memory runs out after some of these undos, it
-- is their numbers and their cells. It is refused as the question for the dependents is.
abbrev pub CascadeReply : List (h.Entry workbook) → ℕ → Result (List ℕ × ℕ) Refusal → Type 0
CascadeReply es k (Ok (ns, n)) =
    (ns ≢ []) × ((left : List ℕ) × DependentsReply es k (Ok (ns ++ left))) × CanUndoAll es (places ns) × (n ≡ min (set_back es (places ns)) (2 ^ 64 - 1))
CascadeReply es k (Err why) = DependentsReply es k (Err why)

-- Whoever undoes edit k, from 0, by undos that are granted one after another, undoes the edits of these numbers too, and so
-- as many at least.
abbrev pub NoShorter : List (h.Entry workbook) → ℕ → List ℕ → Type 0
NoShorter es k ns = (ks : List ℕ) → CanUndoAll es ks → Has ks k → ((n : ℕ) → Has ns n → Has ks (n - 1)) × (length ns ≤ length ks)

-- edit k, from 0, may be undone
abbrev pub IsFree : List (h.Entry workbook) → ℕ → Type 0
IsFree es k = (t : Trace workbook) × CanUndo es k t

-- In force afterwards, in history fs, are the edits that were in history es, but for those of these places; and each does
-- what it did.
abbrev pub OthersStay : List (h.Entry workbook) → List ℕ → List (h.Entry workbook) → Type 0
OthersStay es ks fs = (j : ℕ) (t : Trace workbook) → InForce (traces fs) j t ↔ (InForce (traces es) j t × (Has ks j → ⊥))

-- A cell that no edit of these places touched has the value that it had.
abbrev pub OtherCellsStay : List (h.Entry workbook) → List ℕ → List (h.Entry workbook) → Type 0
OtherCellsStay es ks fs =
    (c : Cell)
    → ((k : ℕ) (t : Trace workbook) → Has ks k → InForce (traces es) k t → writes t c ≡ false)
    → get (replay fs) c ≡ get (replay es) c

-- the edits of numbers, from 1, out of force
abbrev pub all_out_of_force : List ℕ → List Numbered → List Numbered
all_out_of_force [] es = es
all_out_of_force (n ∷ ns) es = all_out_of_force ns (out_of_force (n - 1) es)

-- the count of writes rises from w by c, if any number is there
abbrev pub IsRisen : List ℕ → (w c v : ℕ) → Type 0
IsRisen [] w c v = v ≡ w
IsRisen (n ∷ ns) w c v = v ≡ saturating_add w c

-- What undos of numbers, each granted on its own, make of the edits es with a count of writes w: the edits fs, n cells set
-- back, and the count v.
pub record AreUndone (es : List Numbered) (w : ℕ) (ns : List ℕ) (fs : List Numbered) (n v : ℕ) : Type 0 where
  pub granted : CanUndoAll (meant es) (places ns)
  pub left : fs ≡ all_out_of_force ns es
  pub count : n ≡ min (set_back (meant es) (places ns)) (2 ^ 64 - 1)
  pub writes : IsRisen ns w (set_back (meant es) (places ns)) v

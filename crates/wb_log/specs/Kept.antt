-- What the code keeps of a history, in the terms of its definitions.
use Rattle.std.specs.Prelude.{◌≡◌, ℕ, zero, suc, ◌+◌, ◌≤◌, List, [], ◌∷◌, map, Option, Some, None, is_some, option_map, Ok, slice_get, drop}
use Rattle.selective_undo.specs.Changes.{apply}
use Rattle.selective_undo.specs.Edit.{outcome, reads}
use Rattle.selective_undo.specs.History as h
use Rattle.selective_undo.specs.Log.{Footprint, Logged, IsKept, blocks_undo, blocks_redo, first_from}
use Rattle.wb_cells.specs.declared.cells.pattern.Pattern.{Pattern}
use Rattle.wb_cells.specs.Cells.{Cells, Changes, Contents, count_of, saturating_add}
use Rattle.wb_cells.specs.WellFormed.{IsWellFormed}
use Rattle.wb_edit.specs.declared.planning.PlanErr.{PlanErr}
use Rattle.wb_edit.specs.declared.planning.PlanErr.TheVariants.{Refused as PlanRefused, NoMemory as PlanNoMemory}
use Rattle.wb_cells.specs.declared.refusal.EditRefusal as command_refusal
use Rattle.wb_cells.specs.Schema.{workbook}
use Rattle.wb_edit.specs.Edits.{meaning}
use Rattle.wb_footprints.specs.Footprints.{Footprints}
use Rattle.wb_log.specs.declared.entry.LoggedEdit as kept
use Rattle.wb_log.specs.declared.entry.UndoData.{UndoData}
use Rattle.wb_edit.specs.declared.refusal.Refusal.{Refusal}
use Rattle.wb_edit.specs.declared.refusal.Refusal.TheVariants.{Refused, NotInForce, Blocked, RefusedInPlace, NoMemory}
use Rattle.wb_log.specs.Past.{Numbered, meant}

abbrev pub footprint : List Pattern → Changes → Footprint workbook
footprint reads before = record { reads = reads; touched = before }

-- what an entry keeps
abbrev pub kept_in : kept.LoggedEdit → Option (Footprint workbook)
kept_in x = option_map (λ k. footprint k.footprint k.inverse) x.kept

abbrev pub kept_all : List kept.LoggedEdit → List (Option (Footprint workbook))
kept_all es = map kept_in es

-- the footprint kept at a number, if one is
abbrev pub footprint_at_number : {F : Type 0} → List (Option F) → ℕ → Option F
footprint_at_number [] n = None
footprint_at_number (x ∷ xs) zero = x
footprint_at_number (x ∷ xs) (suc n) = footprint_at_number xs n

-- what is kept of the edits by their numbers, from 1
abbrev pub by_number : List kept.LoggedEdit → Footprints
by_number es = footprint_at_number (None ∷ kept_all es)

abbrev pub logged : kept.LoggedEdit → Logged workbook
logged x = record { edit = meaning x.edit; kept = kept_in x }

abbrev pub log : List kept.LoggedEdit → List (Logged workbook)
log es = map logged es

-- The entries show the cells: they are legal, the cells are their replay, and what is kept of each edit in force is what
-- it read and wrote in the state that the edits in force before it give.
abbrev pub Shows : List kept.LoggedEdit → Cells → Type 0
Shows es s = IsKept {w = workbook} s (log es)

abbrev pub numbered : kept.LoggedEdit → Numbered
numbered x = record { edit = x.edit; in_force = is_some x.kept }

abbrev pub numbered_entries : List kept.LoggedEdit → List Numbered
numbered_entries es = map numbered es

abbrev pub entries_meant : List kept.LoggedEdit → List (h.Entry workbook)
entries_meant es = meant (numbered_entries es)

-- the least later edit, in force, that needs edit k
abbrev pub undo_blocker : List kept.LoggedEdit → ℕ → Option (Footprint workbook) → Option Refusal
undo_blocker es k None = Some NotInForce
undo_blocker es k (Some f) = option_map Blocked (first_from (blocks_undo f.touched) (k + 2) (drop (k + 1) (kept_all es)))

abbrev pub MayUndo : List kept.LoggedEdit → ℕ → Option Refusal → Type 0
MayUndo es k r = (x : kept.LoggedEdit) × (slice_get es k ≡ Some x) × (r ≡ undo_blocker es k (kept_in x))

-- an entry's edit is taken back, with n cells
abbrev pub TakenBack : kept.LoggedEdit → ℕ → kept.LoggedEdit → Contents → Contents → Type 0
TakenBack x n y b d = (k : UndoData) × (x.kept ≡ Some k) × (n ≡ count_of k.inverse) × (y ≡ record { edit = x.edit; kept = None }) ×
    (d.cells ≡ apply k.inverse b.cells) × (d.writes ≡ saturating_add b.writes n)

-- to take an entry's edit back leaves a well-formed workbook
abbrev pub LeavesWellFormed : kept.LoggedEdit → Cells → Type 0
LeavesWellFormed x s = (k : UndoData) → x.kept ≡ Some k → IsWellFormed (apply k.inverse s)

abbrev pub refusal_of : kept.LoggedEdit → Refusal
refusal_of x = elim x.kept [ None ↦ NotInForce | Some k ↦ NoMemory ]

-- why there is no plan, as a refusal
abbrev pub plan_refusal : PlanErr → Refusal
plan_refusal (PlanRefused why footprint) = Refused why
plan_refusal PlanNoMemory = NoMemory

-- the number of the least later edit, in force, that a plan in the place of edit k meets
abbrev pub redo_blocker : List kept.LoggedEdit → ℕ → List Pattern → Changes → Option ℕ
redo_blocker es k rs xs = first_from (blocks_redo (footprint rs xs)) (k + 2) (drop (k + 1) (kept_all es))

abbrev pub in_place : Option ℕ → command_refusal.EditRefusal → Refusal
in_place (Some by) why = Blocked by
in_place None why = RefusedInPlace why

abbrev pub stopped_refusal : List kept.LoggedEdit → ℕ → PlanErr → Refusal
stopped_refusal es k (PlanRefused why rs) = in_place (redo_blocker es k rs []) why
stopped_refusal es k PlanNoMemory = NoMemory

-- Edit k is out of force, its plan is this, and nothing is in its way.
abbrev pub PlansAgain : List kept.LoggedEdit → ℕ → Cells → Changes → List Pattern → ℕ → Type 0
PlansAgain es k s xs rs n =
    (x : kept.LoggedEdit) × (slice_get es k ≡ Some x) × (x.kept ≡ None) × (outcome (meaning x.edit) s ≡ Ok xs) × (rs ≡ reads (meaning x.edit) s) × (n ≡ count_of xs)
    × (redo_blocker es k rs xs ≡ None)

-- the place of the latest entry that keeps something, or none does
abbrev pub IsLatest : List (Option (Footprint workbook)) → Option ℕ → Type 0
IsLatest ks (Some p) = (f : Footprint workbook) × (slice_get ks p ≡ Some (Some f)) × ((q : ℕ) (g : Footprint workbook) → slice_get ks q ≡ Some (Some g) → q ≤ p)
IsLatest ks None = (q : ℕ) (g : Footprint workbook) → slice_get ks q ≡ Some (Some g) → ⊥

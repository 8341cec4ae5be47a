-- The machine of edits, undos and redos: what each answer says of the history. Causes exclude one another (`ReplyLaws`),
-- so that each answer comes exactly when its cause is there; and want of memory stands in the place of no other refusal,
-- but of those of a plan, which takes memory.
use Rattle.std.specs.Prelude.{◌≡◌, ℕ, zero, suc, ◌+◌, List, length, Some, None, Result, Ok, Err, slice_get, slice_set, ⊤, if◌then◌else◌}
use Rattle.std.specs.FinMap.{get}
use Rattle.selective_undo.specs.Edit.{EditTree, Trace, trace, outcome, writes}
use Rattle.selective_undo.specs.History as h
use Rattle.selective_undo.specs.History.{undone, traces, replay, Blocks, CanUndo, CanRedo, InForce, IsLast, state_before}
use Rattle.selective_undo.specs.Log.{Least, BlocksRedo}
use Rattle.wb_cells.specs.declared.cells.cell.Cell.{Cell}
use Rattle.wb_cells.specs.Cells.{Changes, count_of}
use Rattle.wb_cells.specs.Schema.{workbook}
use Rattle.wb_edit.specs.declared.refusal.Refusal.{Refusal}
use Rattle.wb_edit.specs.declared.refusal.Refusal.TheVariants.{Refused, NoSuchEdit, NotInForce, InForce as IsInForce, Blocked, RefusedInPlace, NoMemory}

-- An edit comes: its number, and how many cells it changes; or why it is refused as things stand.
abbrev pub EditReply : List (h.Entry workbook) → EditTree workbook → Result (ℕ × ℕ) Refusal → Type 0
EditReply es e (Ok (k, n)) = (k ≡ length es + 1) × ((xs : Changes) × (outcome e (replay es) ≡ Ok xs) × (n ≡ count_of xs))
EditReply es e (Err (Refused why)) = outcome e (replay es) ≡ Err why
EditReply es e (Err NoMemory) = ⊤
EditReply es e (Err why) = ⊥

-- Edit k, from 0, is undone: how many cells are set back; or there is none, or it is out of force, or the least later
-- edit that needs it. Memory may run out where it could be undone.
abbrev pub UndoReply : List (h.Entry workbook) → ℕ → Result ℕ Refusal → Type 0
UndoReply es k (Ok n) = (t : Trace workbook) × CanUndo es k t × (n ≡ count_of t.before)
UndoReply es k (Err NoSuchEdit) = slice_get es k ≡ None
UndoReply es k (Err NotInForce) = (e : EditTree workbook) × (slice_get es k ≡ Some (undone e))
UndoReply es k (Err (Blocked by)) = (j : ℕ) × (by ≡ suc j) × Least (λ i. Blocks (traces es) i k) j
UndoReply es k (Err NoMemory) = (t : Trace workbook) × CanUndo es k t
UndoReply es k (Err why) = ⊥

-- The latest edit in force is undone: its number, and how many cells are set back; or none is in force. Memory may run
-- out where one is.
abbrev pub LastReply : List (h.Entry workbook) → Result (ℕ × ℕ) Refusal → Type 0
LastReply es (Ok (k, n)) = (j : ℕ) × (k ≡ suc j) × IsLast (traces es) j × UndoReply es j (Ok n)
LastReply es (Err NoSuchEdit) = (j : ℕ) (t : Trace workbook) → InForce (traces es) j t → ⊥
LastReply es (Err NoMemory) = (j : ℕ) × (t : Trace workbook) × InForce (traces es) j t
LastReply es (Err why) = ⊥

-- Edit k, from 0, is redone: how many cells it changes now; or there is none, or it is in force, or the least later edit
-- that it meets, or why it is refused as things stand. Memory may run out where it is out of force.
abbrev pub RedoReply : List (h.Entry workbook) → ℕ → Result ℕ Refusal → Type 0
RedoReply es k (Ok n) = (t : Trace workbook) × CanRedo es k t × (n ≡ count_of t.before)
RedoReply es k (Err NoSuchEdit) = slice_get es k ≡ None
RedoReply es k (Err IsInForce) = (e : EditTree workbook) × (slice_get es k ≡ Some (h.done e))
RedoReply es k (Err (Blocked by)) = (e : EditTree workbook) × (slice_get es k ≡ Some (undone e)) ×
    ((j : ℕ) × (by ≡ suc j) × Least (BlocksRedo (traces es) k (trace e (replay es))) j)
RedoReply es k (Err (RefusedInPlace why)) = (e : EditTree workbook) × (slice_get es k ≡ Some (undone e)) × (outcome e (replay es) ≡ Err why) ×
    ((j : ℕ) → BlocksRedo (traces es) k (trace e (replay es)) j → ⊥)
RedoReply es k (Err NoMemory) = (e : EditTree workbook) × (slice_get es k ≡ Some (undone e))
RedoReply es k (Err why) = ⊥

-- Edits are numbered from 1.
abbrev pub ByNumber : (ℕ → Result ℕ Refusal → Type 0) → ℕ → Result ℕ Refusal → Type 0
ByNumber Reply zero r = r ≡ Err NoSuchEdit
ByNumber Reply (suc k) r = Reply k r

-- ---- what a grant leaves, from history es to history fs

-- Each cell that edit k touched has its value from before it, and every other cell stays.
abbrev pub SetsBack : List (h.Entry workbook) → ℕ → List (h.Entry workbook) → Type 0
SetsBack es k fs = (t : Trace workbook) → InForce (traces es) k t → (c : Cell) →
    get (replay fs) c ≡ (if writes t c then get (state_before k es) c else get (replay es) c)

-- Edit k does nothing any more, and each other edit in force does what it did.
abbrev pub LeavesOthers : List (h.Entry workbook) → ℕ → List (h.Entry workbook) → Type 0
LeavesOthers es k fs = traces fs ≡ slice_set (traces es) k None

-- The workbook is that of the edits in force below k: domains, elements and mappings exactly.
abbrev pub Restores : List (h.Entry workbook) → ℕ → List (h.Entry workbook) → Type 0
Restores es k fs = replay fs ≡ state_before k es

-- Edit k does in its own place what it would do now, and each other edit in force does what it did.
abbrev pub RedoesInPlace : List (h.Entry workbook) → ℕ → List (h.Entry workbook) → Type 0
RedoesInPlace es k fs = (e : EditTree workbook) → slice_get es k ≡ Some (undone e) → traces fs ≡ slice_set (traces es) k (Some (trace e (replay es)))

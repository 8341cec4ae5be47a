-- Worked examples of the definitions: cells and values are numbers, and a pattern is one cell or all of them.
use Rattle.std.proofs.Common.{◌≡◌, ℕ, ◌+◌, Bool, true, false, List, [], ◌∷◌, Some, None, Ok, Err, refl, ◌∙◌, ap, ◌==◌}
use Rattle.std.specs.Ordering.{nat_cmp}
use Rattle.std.specs.Cmp.{nat_cmp_total}
use Rattle.std.specs.FinMap.{entries, nat_cmp-IsAntisymmetric}
use Rattle.selective_undo.specs.Edit.{Schema, Seen, Change, EditTree, Trace, refuse, write, look, needs}
use Rattle.selective_undo.specs.History.{Entry, done, undone, replay, traces, undo, redo, dependents}
use Rattle.selective_undo.specs.Evaluation.{trace_in}
use Rattle.selective_undo.specs.Together.{all_of}
use Rattle.selective_undo.proofs.Evaluation.{entries-replay, traces-in}

data Place : Type 0 where
  at : ℕ → Place
  anywhere : Place

data Why : Type 0 where
  absent : Why
  in_place : ℕ → Why → Why

abbrev holds : Place → ℕ → Bool
holds (at c) d = c == d
holds anywhere d = true

abbrev numbers : Schema
numbers = record {
  Cell = ℕ;
  order = nat_cmp;
  is_order = record { total = nat_cmp_total; strict = nat_cmp-IsAntisymmetric };
  Value = ℕ;
  Pattern = Place;
  matches = holds;
  Refusal = Why;
}

abbrev to : ℕ → ℕ → Change numbers
to c v = record { cell = c; value = Some v }

abbrev off : ℕ → Change numbers
off c = record { cell = c; value = None }

-- cell c gets value v, whatever it has
abbrev set : ℕ → ℕ → EditTree numbers
set c v = write (to c v ∷ [])

-- all cells are cleared
abbrev cleared : Seen numbers → List (Change numbers)
cleared [] = []
cleared (d ∷ ds) = off d.0 ∷ cleared ds

abbrev clear_all : EditTree numbers
clear_all = look anywhere (λ ds. write (cleared ds))

-- cell d gets the value of cell c and one more, and is left as it is where c is absent
abbrev put_more : ℕ → Seen numbers → EditTree numbers
put_more d [] = refuse absent
put_more d (x ∷ xs) = set d (x.1 + 1)

abbrev copy : ℕ → ℕ → EditTree numbers
copy c d = look (at c) (put_more d)

-- what an edit did that looked at patterns ps and wrote xs over ys
abbrev did : List Place → List (Change numbers) → List (Change numbers) → Trace numbers
did ps xs ys = record { reads = ps; outcome = Ok xs; before = ys }

-- ---- a copy depends on its source

abbrev copied : List (Entry numbers)
copied = done (set 1 5) ∷ done (copy 1 2) ∷ done (set 3 7) ∷ []

copied_state : entries (replay copied) ≡ (1, 5) ∷ (2, 6) ∷ (3, 7) ∷ []
copied_state = entries-replay copied ∙ refl

copied_traces : traces copied ≡ Some (did [] (to 1 5 ∷ []) (off 1 ∷ [])) ∷ Some (did (at 1 ∷ []) (to 2 6 ∷ []) (off 2 ∷ [])) ∷ Some
    (did [] (to 3 7 ∷ []) (off 3 ∷ [])) ∷ []
copied_traces = traces-in copied ∙ refl

-- so to undo the source is to undo the copy first, and nothing else
copied_dependents : dependents (traces copied) 0 (did [] (to 1 5 ∷ []) (off 1 ∷ [])) ≡ 1 ∷ 0 ∷ []
copied_dependents = ap (λ ts. dependents ts 0 (did [] (to 1 5 ∷ []) (off 1 ∷ []))) copied_traces ∙ refl

-- which leaves the cell that they have nothing to do with
copied_undone : entries (replay (undo 0 (undo 1 copied))) ≡ (3, 7) ∷ []
copied_undone = entries-replay (undo 0 (undo 1 copied)) ∙ refl

-- ---- two sets of one cell: undone both, and the second redone, it wrote over nothing

abbrev two_sets : List (Entry numbers)
two_sets = undone (set 1 5) ∷ undone (set 1 6) ∷ []

second_redone : traces (redo 1 two_sets) ≡ None ∷ Some (did [] (to 1 6 ∷ []) (off 1 ∷ [])) ∷ []
second_redone = traces-in (redo 1 two_sets) ∙ refl

both_redone : traces (redo 1 (redo 0 two_sets)) ≡ Some (did [] (to 1 5 ∷ []) (off 1 ∷ [])) ∷ Some (did [] (to 1 6 ∷ []) (to 1 5 ∷ [])) ∷ []
both_redone = traces-in (redo 1 (redo 0 two_sets)) ∙ refl

-- ---- what is read or written by a pattern

-- a copy that is out of force meets a later set of its source
source_set : needs (trace_in (copy 1 2) ((1, 5) ∷ [])) (trace_in (set 1 5) []) ≡ true
source_set = refl

-- to clear all cells reads also those that are not there yet
cleared_all : trace_in clear_all ((1, 5) ∷ (2, 6) ∷ []) ≡ did (anywhere ∷ []) (off 1 ∷ off 2 ∷ []) (to 1 5 ∷ to 2 6 ∷ [])
cleared_all = refl

later_cell : needs (trace_in clear_all ((1, 5) ∷ [])) (trace_in (set 3 7) []) ≡ true
later_cell = refl

-- but a set of one cell meets no set of another
other_cell : needs (trace_in (set 1 5) []) (trace_in (set 2 6) []) ≡ false
other_cell = refl

-- an edit that is refused writes nothing, and has read what it was refused for
nothing_there : trace_in (copy 1 2) ((3, 7) ∷ []) ≡ record { reads = at 1 ∷ []; outcome = Err absent; before = [] }
nothing_there = refl

-- ---- a transaction

-- cell 1 gets 5, cell 2 gets one more than cell 1, and cell 1 gets 8
abbrev three : EditTree numbers
three = all_of in_place (set 1 5 ∷ copy 1 2 ∷ set 1 8 ∷ [])

-- the copy sees the 5; each cell is written once, and cell 1 was 4 before
three_made : trace_in three ((1, 4) ∷ (3, 7) ∷ []) ≡ did (at 1 ∷ []) (to 1 8 ∷ to 2 6 ∷ []) (to 1 4 ∷ off 2 ∷ [])
three_made = refl

-- the second copy finds nothing: no cell is written, and the refusal has its place
abbrev halted : EditTree numbers
halted = all_of in_place (set 1 5 ∷ copy 1 2 ∷ copy 4 3 ∷ copy 5 3 ∷ [])

none_made : trace_in halted [] ≡ record { reads = at 1 ∷ at 4 ∷ []; outcome = Err (in_place 2 absent); before = [] }
none_made = refl

-- undone, it leaves nothing of any of the three
abbrev at_once : List (Entry numbers)
at_once = done (set 1 4) ∷ done three ∷ done (set 3 7) ∷ []

three_undone : entries (replay (undo 1 at_once)) ≡ (1, 4) ∷ (3, 7) ∷ []
three_undone = entries-replay (undo 1 at_once) ∙ refl

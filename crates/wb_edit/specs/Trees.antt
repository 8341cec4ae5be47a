-- Edits as trees, and how they look at cells.
use Rattle.std.specs.Prelude.{List, [], ◌∷◌, Option, Some, None, Result, Ok, Err}
use Rattle.selective_undo.specs.Edit.{EditTree, refuse, look}
use Rattle.wb_cells.specs.declared.cells.cell.Cell.{Cell}
use Rattle.wb_cells.specs.declared.cells.pattern.Pattern.TheVariants.{One}
use Rattle.wb_cells.specs.declared.cells.value.Value.{Value}
use Rattle.wb_cells.specs.declared.refusal.EditRefusal.{EditRefusal}
use Rattle.wb_cells.specs.declared.refusal.WhyRefused.{WhyRefused}
use Rattle.wb_cells.specs.Schema.{workbook}

-- An edit of a workbook is a tree: `refuse why`, `write changes`, or a look and what follows for each thing that it may show.
abbrev pub Tree : Type 0
Tree = EditTree workbook

-- A test, or a look, by whose answer the rest of an edit goes on: it is given the rest, and is the whole edit.
-- `x ← t` says: by t, get x, and go on. `unit ← t` is a test that says no more than that the edit goes on.
abbrev pub Look : Type 0 → Type 0
Look X = (X → Tree) → Tree

-- t, and then the rest by what t gives: what `x ← t` stands for
infixr 10 ◌>>=◌
abbrev pub ◌>>=◌ : {X : Type 0} → Look X → (X → Tree) → Tree
t >>= next = t next

-- the same where t gives nothing
infixr 10 ◌>>◌
abbrev pub ◌>>◌ : (Tree → Tree) → Tree → Tree
t >> next = t next

-- a look at one cell shows that cell with its value, or nothing
abbrev pub first_value : List (Cell × Value) → Option Value
first_value [] = None
first_value (x ∷ xs) = Some x.1

-- what a cell holds
abbrev pub read : Cell → Look (Option Value)
read c next = look (One c) (λ seen. next (first_value seen))

-- why a command is refused, as the refusal of an edit that is this command alone: there is no place to tell
abbrev pub plain : WhyRefused → EditRefusal
plain why = record { why = why; at = None }

-- go on with what a judgement gives, or be refused by it
abbrev pub judged : {X : Type 0} → Result X WhyRefused → Look X
judged (Ok x) next = next x
judged (Err why) next = refuse (plain why)

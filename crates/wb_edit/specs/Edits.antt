-- Edits: a command, several of them as one with a note, or a text that is loaded.
use Rattle.std.specs.Prelude.{ℕ, List, Option, Some, None, ⊤}
use Rattle.std.specs.List.{AllByRecursion}
use Rattle.wb_cells.specs.declared.refusal.EditRefusal.{EditRefusal}
use Rattle.wb_edit.specs.declared.command.Command.{Command}
use Rattle.wb_edit.specs.declared.edit.Edit.{Edit}
use Rattle.wb_edit.specs.declared.edit.Edit.TheVariants.{Command as OneCommand, Transaction, Load}
use Rattle.wb_edit.specs.Commands.{command_meaning, load}
use Rattle.wb_edit.specs.Several.{meaning_of_all}
use Rattle.wb_edit.specs.Trees.{Tree}
use Rattle.wb_edit.specs.Valid.{IsValidCommand, CommandListsOnce}
use Rattle.wb_text.specs.Texts.Books.{IsBookText}

-- ---- what they mean

-- a refusal of a command that stands at this place among several, from 0
abbrev pub placed : ℕ → EditRefusal → EditRefusal
placed k refusal = record { why = refusal.why; at = Some k }

-- the tree of several commands as one: each is made in the workbook that those before it leave, or none is; the refusal is that of the
-- first one that is refused, with its place
abbrev pub meaning_of_several : List Command → Tree
meaning_of_several cs = meaning_of_all placed cs

-- the tree of an edit; a note does nothing
abbrev pub meaning : Edit → Tree
meaning (OneCommand c) = command_meaning c
meaning (Transaction t) = meaning_of_several t.0
meaning (Load text) = load text

-- ---- which there are

-- the command that an edit is, if it is one alone
abbrev pub command_in : Edit → Option Command
command_in (OneCommand c) = Some c
command_in (Transaction t) = None
command_in (Load text) = None

-- the note of an edit, if it has one
abbrev pub note_of : Edit → Option (List ℕ)
note_of (OneCommand c) = None
note_of (Transaction t) = t.1
note_of (Load text) = None

-- what an edit has to be so that it keeps a workbook well formed; every value of the type `Edit` is
abbrev pub IsValid : Edit → Type 0
IsValid (OneCommand c) = IsValidCommand c
IsValid (Transaction t) = AllByRecursion IsValidCommand t.0
IsValid (Load text) = IsBookText text

-- The indices that each of its commands carries are listed once each; those of every value of the type `Edit` are.
abbrev pub ListsOnce : Edit → Type 0
ListsOnce (OneCommand c) = CommandListsOnce c
ListsOnce (Transaction t) = AllByRecursion CommandListsOnce t.0
ListsOnce (Load text) = ⊤

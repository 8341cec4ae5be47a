-- Several commands as one: each is made in the workbook that those before it leave, or none is.
use Rattle.std.specs.Prelude.{◌≡◌, ℕ, ◌<◌, List, ◌++◌, map, length, Result, Ok, Err, ⊤}
use Rattle.selective_undo.specs.Changes.{apply}
use Rattle.selective_undo.specs.Edit.{outcome, reads}
use Rattle.selective_undo.specs.Together.{together, all_of}
use Rattle.wb_cells.specs.declared.cells.pattern.Pattern.{Pattern}
use Rattle.wb_cells.specs.declared.refusal.EditRefusal.{EditRefusal}
use Rattle.wb_cells.specs.Cells.{Cells, Changes, cell_cmp}
use Rattle.wb_layers.specs.Laid.{Laid}
use Rattle.wb_edit.specs.declared.command.Command.{Command}
use Rattle.wb_edit.specs.declared.planning.PlanErr.TheVariants.{Refused as PlanRefused}
use Rattle.wb_edit.specs.declared.several.AllErr.{AllErr}
use Rattle.wb_edit.specs.declared.several.AllErr.TheVariants.{Refused as FirstRefused, NoMemory as NoMemoryForAll}
use Rattle.wb_edit.specs.declared.several.PlanAllErr.{PlanAllErr}
use Rattle.wb_edit.specs.declared.several.PlanAllErr.TheVariants.{Refused as AllRefused, NoMemory as PlanAllNoMemory}
use Rattle.wb_edit.specs.Commands.{command_meaning}
use Rattle.wb_edit.specs.Plans.{IsPlan}
use Rattle.wb_edit.specs.Trees.{Tree, plain}

-- the tree of several commands, where a refusal says what is made of the place of its command, from 0, and of why that is refused
abbrev pub meaning_of_all : (ℕ → EditRefusal → EditRefusal) → List Command → Tree
meaning_of_all at_place cs = all_of at_place (map command_meaning cs)

-- A plan of several commands is what their tree says of the cells, whatever is made of places: the changes, or the first command
-- that is refused, by its place, and why; the reads in their order; and how many cells change, the cells `In` aside. Nothing is said
-- where no memory was left.
abbrev pub IsPlanOfAll : List Command → Cells → Result (Changes × List Pattern × ℕ) PlanAllErr → Type 0
IsPlanOfAll cs s (Ok plan) = (at_place : ℕ → EditRefusal → EditRefusal) → IsPlan (meaning_of_all at_place cs) s (Ok plan)
IsPlanOfAll cs s (Err (AllRefused k why rs)) =
    (k < length cs) × ((at_place : ℕ → EditRefusal → EditRefusal) → IsPlan (meaning_of_all at_place cs) s (Err (PlanRefused (at_place k (plain why)) rs)))
IsPlanOfAll cs s (Err PlanAllNoMemory) = ⊤

-- ---- in the making, where rs was read before and ss after

-- the commands come out as their tree does: with their changes laid over the workbook, or with the first that is refused
abbrev pub AttemptsAll : List Command → Cells → List Pattern → Result Laid AllErr → List Pattern → Type 0
AttemptsAll cs s rs (Ok l) ss =
    (at_place : ℕ → EditRefusal → EditRefusal) → (outcome (meaning_of_all at_place cs) s ≡ Ok l.laid) × (ss ≡ rs ++ reads (meaning_of_all at_place cs) s)
AttemptsAll cs s rs (Err (FirstRefused k why)) ss =
    (k < length cs)
    × ((at_place : ℕ → EditRefusal → EditRefusal) → (outcome (meaning_of_all at_place cs) s ≡ Err (at_place k (plain why))) × (ss ≡ rs ++ reads (meaning_of_all at_place cs) s))
AttemptsAll cs s rs (Err NoMemoryForAll) ss = ⊤

-- one more command is made over what is laid, or is refused there
abbrev pub MakesNext : Command → ℕ → Laid → List Pattern → Result Laid AllErr → List Pattern → Type 0
MakesNext c k l rs (Ok m) ss =
    (xs : Changes) × (outcome (command_meaning c) l.cells ≡ Ok xs) × (ss ≡ rs ++ reads (command_meaning c) l.cells) × (m.cells ≡ apply xs l.cells)
    × (m.laid ≡ together cell_cmp l.laid xs)
MakesNext c k l rs (Err (FirstRefused j why)) ss = (j ≡ k) × (outcome (command_meaning c) l.cells ≡ Err (plain why)) × (ss ≡ rs ++ reads (command_meaning c) l.cells)
MakesNext c k l rs (Err NoMemoryForAll) ss = ⊤

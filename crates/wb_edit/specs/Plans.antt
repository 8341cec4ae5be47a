-- What the code of a plan says of a tree.
use Rattle.std.specs.declared.vec.Vec.{Vec}
use Rattle.std.specs.Prelude.{◌≡◌, ℕ, List, ◌++◌, Result, Ok, Err, ⊤}
use Rattle.selective_undo.specs.Edit.{outcome, reads}
use Rattle.wb_cells.specs.declared.cells.pattern.Pattern.{Pattern}
use Rattle.wb_cells.specs.Cells.{Cells, Changes, count_of}
use Rattle.wb_edit.specs.declared.planning.PlanErr.{PlanErr}
use Rattle.wb_edit.specs.declared.planning.PlanErr.TheVariants.{Refused as PlanRefused, NoMemory as PlanNoMemory}
use Rattle.wb_edit.specs.declared.looks.indices.Indices.{Indices}
use Rattle.wb_edit.specs.declared.looks.indices.Indices.TheVariants.{Product, Listed}
use Rattle.wb_edit.specs.declared.attempt_err.AttemptErr.{AttemptErr}
use Rattle.wb_edit.specs.declared.attempt_err.AttemptErr.TheVariants.{Refused as AttemptRefused, NoMemory as AttemptNoMemory}
use Rattle.wb_cells.specs.declared.refusal.WhyRefused.{WhyRefused}
use Rattle.wb_cells.specs.declared.values.index.Index.{Index}
use Rattle.wb_cells.specs.Shapes.{indices}
use Rattle.wb_edit.specs.Trees.{Tree, Look, plain}

-- A plan is what the tree says of the cells: the changes, or the refusal; the reads in their order; and how many cells change,
-- the cells `In` aside. Nothing is said where no memory was left.
abbrev pub IsPlan : Tree → Cells → Result (Changes × List Pattern × ℕ) PlanErr → Type 0
IsPlan e s (Ok (xs, rs, n)) = (outcome e s ≡ Ok xs) × (rs ≡ reads e s) × (n ≡ count_of xs)
IsPlan e s (Err (PlanRefused why rs)) = (outcome e s ≡ Err why) × (rs ≡ reads e s)
IsPlan e s (Err PlanNoMemory) = ⊤

-- ---- a plan in the making, where rs was read before and ss after

-- an attempt comes out as the tree does, and adds what it reads
abbrev pub Attempts : Tree → Cells → List Pattern → Result Changes AttemptErr → List Pattern → Type 0
Attempts e s rs (Ok xs) ss = (outcome e s ≡ Ok xs) × (ss ≡ rs ++ reads e s)
Attempts e s rs (Err (AttemptRefused why)) ss = (outcome e s ≡ Err (plain why)) × (ss ≡ rs ++ reads e s)
Attempts e s rs (Err AttemptNoMemory) ss = ⊤

-- whatever comes next, a look goes on with x
abbrev pub Gives : {X : Type 0} → Look X → Cells → List Pattern → X → List Pattern → Type 0
Gives t s rs x ss = (next : _ → Tree) → (outcome (t next) s ≡ outcome (next x) s) × (rs ++ reads (t next) s ≡ ss ++ reads (next x) s)

-- whatever comes next, a look refuses the edit
abbrev pub Refuses : {X : Type 0} → Look X → Cells → List Pattern → WhyRefused → List Pattern → Type 0
Refuses t s rs why ss = (next : _ → Tree) → (outcome (t next) s ≡ Err (plain why)) × (ss ≡ rs ++ reads (t next) s)

-- a look comes out as its tree does
abbrev pub Looks : {X : Type 0} → Look X → Cells → List Pattern → Result X AttemptErr → List Pattern → Type 0
Looks t s rs (Ok x) ss = Gives t s rs x ss
Looks t s rs (Err (AttemptRefused why)) ss = Refuses t s rs why ss
Looks t s rs (Err AttemptNoMemory) ss = ⊤

-- the changes, unless no memory was left
abbrev pub Makes : Changes → Result Changes AttemptErr → Type 0
Makes xs (Ok ys) = ys ≡ xs
Makes xs (Err why) = why ≡ AttemptNoMemory

-- a judgement, where it may stop an attempt
abbrev pub or_refused : {X : Type 0} → Result X WhyRefused → Result X AttemptErr
or_refused (Ok x) = Ok x
or_refused (Err why) = Err (AttemptRefused why)

-- the indices that were found, by ranges or one by one
abbrev pub indices_in : Indices → List Index
indices_in (Product rs) = indices rs
indices_in (Listed is) = is.items

-- the members that a look found
abbrev pub found_members : {Z : Type 0} → Result (Vec Index Z) AttemptErr → Result (List Index) AttemptErr
found_members (Ok is) = Ok is.items
found_members (Err why) = Err why

-- what a look at indices found, as the indices that it stands for
abbrev pub shown_indices : Result Indices AttemptErr → Result (List Index) AttemptErr
shown_indices (Ok found) = Ok (indices_in found)
shown_indices (Err why) = Err why

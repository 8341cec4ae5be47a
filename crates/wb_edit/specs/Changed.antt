-- What the code of a plan says of elements that were seen, and what becomes of them.
use Rattle.std.specs.Prelude.{◌≡◌, ⊤, ℕ, ℤ, Bool, true, false, List, [], ◌∷◌, map, Option, Some, Result, Ok, Err, slice_get}
use Rattle.std.specs.Global.{Vec}
use Rattle.std.specs.List.{list_all}
use Rattle.wb_cells.specs.declared.cells.cell.Cell.{Cell}
use Rattle.wb_cells.specs.declared.cells.value.Value.{Value}
use Rattle.wb_cells.specs.declared.values.index.Index.{Index}
use Rattle.wb_cells.specs.Cells.{Name, Changes}
use Rattle.wb_edit.specs.declared.operation.Operation.{Operation}
use Rattle.wb_cells.specs.declared.refusal.WhyRefused.{WhyRefused}
use Rattle.wb_cells.specs.declared.refusal.WhyRefused.TheVariants.{Overflow}
use Rattle.wb_edit.specs.declared.attempt_err.AttemptErr.{AttemptErr}
use Rattle.wb_edit.specs.declared.attempt_err.AttemptErr.TheVariants.{Refused, NoMemory}
use Rattle.wb_edit.specs.Commands.All.{number_cells}
use Rattle.wb_edit.specs.Elements.{result_of}
use Rattle.wb_edit.specs.Numbers.{is_i64}

-- a vector, as its list
abbrev pub items_of : {X : Type 0} → Result (Vec X) AttemptErr → Result (List X) AttemptErr
items_of (Ok v) = Ok v.items
items_of (Err why) = Err why

-- a judgement comes out so, unless no memory was left
abbrev pub Judges : {X : Type 0} → Result X WhyRefused → Result X AttemptErr → Type 0
Judges j (Ok x) = j ≡ Ok x
Judges j (Err (Refused why)) = j ≡ Err why
Judges j (Err NoMemory) = ⊤

-- the numbers that a judgement gives, as changes of the elements of an array
abbrev pub numbered : Name → Result (List (Index × ℤ)) WhyRefused → Result Changes WhyRefused
numbered a (Ok zs) = Ok (number_cells a zs)
numbered a (Err why) = Err why

-- what the numbers at each place of two lists make
abbrev pub made_of : Operation → (xs ys : List ℤ) → List ℤ
made_of how [] ys = []
made_of how (x ∷ xs) [] = []
made_of how (x ∷ xs) (y ∷ ys) = result_of how x y ∷ made_of how xs ys

abbrev pub numbers_if : Bool → List ℤ → Result (List ℤ) WhyRefused
numbers_if true zs = Ok zs
numbers_if false zs = Err Overflow

-- numbers, where all are of 64 bits
abbrev pub numbers_within : List ℤ → Result (List ℤ) WhyRefused
numbers_within zs = numbers_if (list_all is_i64 zs) zs

-- each of the cells becomes a value, or absent
abbrev pub set_all : List Cell → Option Value → Changes
set_all cs v = map (λ c. record { cell = c; value = v }) cs

-- no element stands in both lists
abbrev pub AreApart : {X : Type 0} → List X → List X → Type 0
AreApart {X} xs ys = (p q : ℕ) (x : X) → slice_get xs p ≡ Some x → slice_get ys q ≡ Some x → ⊥

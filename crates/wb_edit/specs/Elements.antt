-- All elements of an array at once: a look at the family of them, and what those of two arrays make.
use Rattle.std.specs.Prelude.{Bool, true, false, ℤ, pos, ◌+ℤ◌, ◌-ℤ◌, ◌*ℤ◌, List, [], ◌∷◌, map, Result, Ok, Err}
use Rattle.std.specs.List.{filter_map, list_all}
use Rattle.std.specs.Map.{keys_of}
use Rattle.selective_undo.specs.Edit.{look}
use Rattle.wb_cells.specs.declared.cells.pattern.Pattern.TheVariants.{Elements}
use Rattle.wb_cells.specs.declared.values.index.Index.{Index}
use Rattle.wb_cells.specs.Cells.{Name, is_same_name, is_same_index}
use Rattle.wb_cells.specs.Readers.{element_in}
use Rattle.wb_edit.specs.declared.operation.Operation.{Operation}
use Rattle.wb_edit.specs.declared.operation.Operation.TheVariants.{Assign, Sum, Difference, Product}
use Rattle.wb_cells.specs.declared.refusal.WhyRefused.{WhyRefused}
use Rattle.wb_cells.specs.declared.refusal.WhyRefused.TheVariants.{WrongKind, Overflow}
use Rattle.wb_edit.specs.Trees.{Look, judged}
use Rattle.wb_edit.specs.Numbers.{is_i64}

-- the elements of an array, each after its index, in the order of the indices: looks at the family of them, at once
abbrev pub elements : Name → Look (List (Index × ℤ))
elements a next = look (Elements a) (λ seen. next (filter_map element_in seen))

-- their indices alone: the same look
abbrev pub element_indices : Name → Look (List Index)
element_indices a next = elements a (λ es. next (keys_of es))

-- ---- two arrays

-- they are over one domain, by its name; else one is of the wrong kind
abbrev pub same_domain : Name → Name → Result (Unit {0}) WhyRefused
same_domain d e = elim (is_same_name d e) [ true ↦ Ok tt | false ↦ Err WrongKind ]

abbrev pub result_of : Operation → ℤ → ℤ → ℤ
result_of Assign x y = y
result_of Sum x y = x +ℤ y
result_of Difference x y = x -ℤ y
result_of Product x y = x *ℤ y

-- the element at an index
abbrev pub value_at : List (Index × ℤ) → Index → ℤ
value_at [] i = pos 0
value_at (e ∷ es) i = elim (is_same_index i e.0) [ true ↦ e.1 | false ↦ value_at es i ]

-- for each index of xs, what its element and that of ys make
abbrev pub results : Operation → (xs ys : List (Index × ℤ)) → List (Index × ℤ)
results how xs ys = map (λ x. (x.0, result_of how x.1 (value_at ys x.0))) xs

abbrev pub all_kept_if : Bool → List (Index × ℤ) → Result (List (Index × ℤ)) WhyRefused
all_kept_if true zs = Ok zs
all_kept_if false zs = Err Overflow

-- elements, where all are of 64 bits
abbrev pub all_within : List (Index × ℤ) → Result (List (Index × ℤ)) WhyRefused
all_within zs = all_kept_if (list_all (λ z. is_i64 z.1) zs) zs

-- two arrays over one domain: looks at nothing
abbrev pub over_one_domain : Name → Name → Look (Unit {0})
over_one_domain d e = judged (same_domain d e)

-- results within 64 bits, all of them: looks at nothing
abbrev pub results_within : Operation → (xs ys : List (Index × ℤ)) → Look (List (Index × ℤ))
results_within how xs ys = judged (all_within (results how xs ys))

-- Tests on numbers: the element that is read, and sums within 64 bits.
use Rattle.std.specs.Prelude.{◌^◌, nat_lt, Bool, true, false, ℤ, pos, negsuc, ◌+ℤ◌, Option, Some, Result, Ok, Err}
use Rattle.wb_cells.specs.declared.cells.value.Value.{Value}
use Rattle.wb_cells.specs.declared.cells.value.Value.TheVariants.{Number}
use Rattle.wb_cells.specs.declared.refusal.WhyRefused.{WhyRefused}
use Rattle.wb_cells.specs.declared.refusal.WhyRefused.TheVariants.{OutOfDomain, Overflow}
use Rattle.wb_edit.specs.Trees.{Look, judged}

-- ---- judgements

-- the element that a cell holds
abbrev pub element_or_refusal : Option Value → Result ℤ WhyRefused
element_or_refusal (Some (Number x)) = Ok x
element_or_refusal _ = Err OutOfDomain

-- whether an integer is one of 64 bits: -2^63 to 2^63 - 1
abbrev pub is_i64 : ℤ → Bool
is_i64 (pos n) = nat_lt n (2 ^ 63)
is_i64 (negsuc n) = nat_lt n (2 ^ 63)

abbrev pub kept_if : Bool → ℤ → Result ℤ WhyRefused
kept_if true z = Ok z
kept_if false z = Err Overflow

-- an integer, where it is one of 64 bits
abbrev pub fits_integer : ℤ → Result ℤ WhyRefused
fits_integer z = kept_if (is_i64 z) z

-- ---- the looks

-- a sum within 64 bits: looks at nothing
abbrev pub sum : ℤ → ℤ → Look ℤ
sum x y = judged (fits_integer (x +ℤ y))

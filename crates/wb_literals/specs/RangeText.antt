-- The canonical text of a range.
use Rattle.std.specs.Prelude.{◌≢◌, ℕ, ℤ, pos, List, ◌++◌, codes, Option, Some, None}
use Rattle.std.specs.Fmt.{signed_decimal}
use Rattle.wb_literals.specs.Integer.{IsWithin}
use Rattle.wb_literals.specs.declared.range.Stride.{Stride}

-- the bounds, and a stride where it is not 1
abbrev pub range_text : ℤ → ℤ → Option ℤ → List ℕ
range_text low high None = signed_decimal low ++ (codes ".." ++ signed_decimal high)
range_text low high (Some stride) = signed_decimal low ++ (codes ".." ++ (signed_decimal high ++ (codes " by " ++ signed_decimal stride)))

abbrev pub unaligned : Option ℤ → Option Stride
unaligned None = None
unaligned (Some stride) = Some (record { stride = stride; align = None })

abbrev pub IsStride : Option ℤ → Type 0
IsStride None = Unit {0}
IsStride (Some stride) = IsWithin stride × (stride ≢ pos 0)

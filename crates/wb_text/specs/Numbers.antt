-- The numbers that a list of them holds in its form.
use Rattle.std.specs.Prelude.{ℤ, List}
use Rattle.wb_text.specs.declared.number_list.NumberForm.{NumberForm}
use Rattle.wb_text.specs.declared.number_list.NumberForm.TheVariants.{Bits8, Bits16, Bits32, Bits64}

-- the numbers, in whatever form
abbrev pub numbers_in : NumberForm → List ℤ
numbers_in (Bits8 v) = v.items
numbers_in (Bits16 v) = v.items
numbers_in (Bits32 v) = v.items
numbers_in (Bits64 v) = v.items

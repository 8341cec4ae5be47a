-- Labels of one object.
use Rattle.std.specs.Prelude.{ℕ, Bool, List}
use Rattle.std.specs.Cmp.Lexicographic.{slice_cmp}
use Rattle.std.specs.List.{list_any}
use Rattle.std.specs.Ordering.{nat_cmp, eq_by_cmp}
use Rattle.std.specs.declared.cmp.Ordering.{Ordering}

-- a label, as its bytes
abbrev pub Text : Type 0
Text = List ℕ

-- compared from the left
abbrev pub text_cmp : Text → Text → Ordering
text_cmp = slice_cmp nat_cmp

-- whether a label is one of some
abbrev pub in_texts : List Text → Text → Bool
in_texts ts t = list_any (λ u. eq_by_cmp text_cmp u t) ts

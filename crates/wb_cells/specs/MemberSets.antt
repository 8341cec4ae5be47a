-- The indices of a domain, by their form.
use Rattle.std.specs.Prelude.{◌≡◌, Bool, true, List, map}
use Rattle.std.specs.List.{list_all}
use Rattle.wb_cells.specs.declared.values.index.Index.{Index}
use Rattle.wb_cells.specs.declared.values.index.Index.TheVariants.{Point, Text}
use Rattle.wb_cells.specs.declared.book.member_set.MemberForm.{MemberForm}
use Rattle.wb_cells.specs.declared.book.member_set.MemberForm.TheVariants.{Rank1, Rank2, Rank3, Short, Text as Texts, Mixed}
use Rattle.wb_cells.specs.Kinds.{is_point, is_short_text, is_text}

-- the indices, in order
abbrev pub listed : MemberForm → List Index
listed (Rank1 s) = map Point s.keys
listed (Rank2 s) = map Point s.keys
listed (Rank3 s) = map Point s.keys
listed (Short s) = map Text s.keys
listed (Texts s) = map Text s.keys
listed (Mixed s) = map (λ i. i) s.keys

-- whether an index may be one of them
abbrev pub is_of_form : MemberForm → Index → Bool
is_of_form (Rank1 s) i = is_point 1 i
is_of_form (Rank2 s) i = is_point 2 i
is_of_form (Rank3 s) i = is_point 3 i
is_of_form (Short s) i = is_short_text i
is_of_form (Texts s) i = is_text i
is_of_form (Mixed s) i = true

-- the indices have the form that they are kept in
abbrev pub IsKept : MemberForm → Type 0
IsKept form = list_all (is_of_form form) (listed form) ≡ true

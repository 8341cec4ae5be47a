-- The indices of a domain that a walk over them has left, by their form.
use Rattle.std.specs.Prelude.{List, [], map}
use Rattle.wb_cells.specs.declared.values.index.Index.{Index}
use Rattle.wb_cells.specs.declared.values.index.Index.TheVariants.{Point, Text}
use Rattle.wb_cells.specs.declared.book.member_walk.WalkForm.{WalkForm}
use Rattle.wb_cells.specs.declared.book.member_walk.WalkForm.TheVariants.{Nothing, Rank1, Rank2, Rank3, Short, Text as Texts, Mixed}

-- those that are left, in order
abbrev pub left : WalkForm → List Index
left Nothing = []
left (Rank1 ks) = map Point ks
left (Rank2 ks) = map Point ks
left (Rank3 ks) = map Point ks
left (Short ks) = map Text ks
left (Texts ks) = map Text ks
left (Mixed ks) = map (λ i. i) ks

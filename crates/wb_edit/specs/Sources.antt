-- Where the new value of a domain comes from: what a command is given, and whether it is one for the domain.
use Rattle.std.specs.Prelude.{ℕ, ◌==◌, Bool, true, false, ℤ, List, length, Result, Ok, Err}
use Rattle.std.specs.List.{list_all}
use Rattle.selective_undo.specs.Edit.{refuse}
use Rattle.wb_rect.specs.ShiftTests.{has_unit_strides}
use Rattle.wb_rect.specs.Slices.{sliced}
use Rattle.wb_cells.specs.declared.cells.kind.KeyType.{KeyType}
use Rattle.wb_cells.specs.declared.cells.kind.KeyType.TheVariants.{Int, Text}
use Rattle.wb_cells.specs.declared.cells.kind.Kind.{Kind}
use Rattle.wb_cells.specs.declared.cells.kind.Kind.TheVariants.{Sparse as over_sparse, Associative as over_associative}
use Rattle.wb_cells.specs.declared.values.index.Index.{Index}
use Rattle.wb_cells.specs.Cells.{Name}
use Rattle.wb_cells.specs.Kinds.{kind_of, is_key}
use Rattle.wb_cells.specs.Shapes.{Range}
use Rattle.wb_reshape.specs.declared.operand.Operand.{Operand}
use Rattle.wb_reshape.specs.declared.operand.Operand.TheVariants.{Rectangle, Items, Named}
use Rattle.wb_reshape.specs.declared.new_indices.Displacement.{Displacement}
use Rattle.wb_reshape.specs.Sources.{displaced, can_displace}
use Rattle.wb_cells.specs.declared.refusal.WhyRefused.{WhyRefused}
use Rattle.wb_cells.specs.declared.refusal.WhyRefused.TheVariants.{WrongKind, TooLarge}
use Rattle.wb_edit.specs.Trees.{Look, ◌>>=◌, judged, plain}
use Rattle.wb_edit.specs.Rectangles.{of_rank}
use Rattle.wb_edit.specs.Reshaping.{shape}
use Rattle.wb_edit.specs.Looks.{domain_named, members}

-- ---- judgements

-- so many dimensions as a domain of the rank has; else of the wrong kind
abbrev pub same_rank : (rank dimensions : ℕ) → Result (Unit {0}) WhyRefused
same_rank rank dimensions = elim (dimensions == rank) [ true ↦ Ok tt | false ↦ Err WrongKind ]

-- what two rectangles of one rank have in common; else the other one is of the wrong kind, which in a well-formed workbook
-- was tested before both were looked at
abbrev pub slice_of : (old by : List Range) → Result (List Range) WhyRefused
slice_of old by = elim (length old == length by) [ true ↦ Ok (sliced old by) | false ↦ Err WrongKind ]

-- displaced ranges, where each had stride 1, else the domain is of the wrong kind, and the limits hold, else they are too large
abbrev pub displaced_if : (unit_strides within : Bool) → List Range → Result (List Range) WhyRefused
displaced_if false within new = Err WrongKind
displaced_if true false new = Err TooLarge
displaced_if true true new = Ok new

-- ranges displaced by an offset for each; offsets of another number are of the wrong kind, which in a well-formed workbook was
-- tested before the ranges were looked at
abbrev pub displacement_of : Displacement → (offsets : List ℤ) → (old : List Range) → Result (List Range) WhyRefused
displacement_of how offsets old = elim (length offsets == length old) [
  | true ↦ displaced_if (has_unit_strides old) (can_displace how offsets old) (displaced how offsets old)
  | false ↦ Err WrongKind
]

abbrev pub is_same_type : KeyType → KeyType → Bool
is_same_type Int Int = true
is_same_type Int Text = false
is_same_type Text Int = false
is_same_type Text Text = true

-- both sparse of one rank, or both associative of one type
abbrev pub is_alike : Kind → Kind → Bool
is_alike (over_sparse rank) (over_sparse other) = rank == other
is_alike (over_associative type) (over_associative other) = is_same_type type other
is_alike _ _ = false

-- domains alike; else the other one is of the wrong kind
abbrev pub alike : Kind → Kind → Result (Unit {0}) WhyRefused
alike kind other = elim (is_alike kind other) [ true ↦ Ok tt | false ↦ Err WrongKind ]

-- all indices are of the rank or type of the indices of a domain of this kind; else one is of the wrong kind
abbrev pub all_fit : Kind → List Index → Result (Unit {0}) WhyRefused
all_fit kind is = elim (list_all (is_key kind) is) [ true ↦ Ok tt | false ↦ Err WrongKind ]

-- ---- the looks

-- a rectangular domain of the rank: looks at its object
abbrev pub names_rectangle : (rank : ℕ) → Name → Look (Unit {0})
names_rectangle rank e next = do
  kind ← domain_named e
  judged (of_rank rank (kind_of kind)) next

-- a rectangle of the rank is given: a literal, or a rectangular domain, whose object is looked at
abbrev pub gives_rectangle : (rank : ℕ) → Operand → Look (Unit {0})
gives_rectangle rank (Rectangle rs) next = judged (same_rank rank (length rs)) next
gives_rectangle rank (Items is) next = refuse (plain WrongKind)
gives_rectangle rank (Named e) next = names_rectangle rank e next

-- the ranges that are given: looks at those of the domain that is named. A set has none, and is refused before
abbrev pub ranges_given : Operand → Look (List Range)
ranges_given (Rectangle rs) next = next rs
ranges_given (Items is) next = refuse (plain WrongKind)
ranges_given (Named e) next = shape e next

-- a domain like one of the kind: looks at its object
abbrev pub names_set : Kind → Name → Look (Unit {0})
names_set kind e next = do
  other ← domain_named e
  judged (alike kind (kind_of other)) next

-- a set for a domain of the kind is given: a literal of such indices, or a domain like it, whose object is looked at
abbrev pub gives_set : Kind → Operand → Look (Unit {0})
gives_set kind (Rectangle rs) next = refuse (plain WrongKind)
gives_set kind (Items is) next = judged (all_fit kind is) next
gives_set kind (Named e) next = names_set kind e next

-- the indices that are given: looks at those of the domain that is named. A rectangle is no set, and is refused before
abbrev pub indices_given : Operand → Look (List Index)
indices_given (Rectangle rs) next = refuse (plain WrongKind)
indices_given (Items is) next = next is
indices_given (Named e) next = members e next

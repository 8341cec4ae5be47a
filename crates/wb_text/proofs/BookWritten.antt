-- Each line of a well-formed workbook may be written, so its text tells its lines.
use Rattle.std.proofs.Common.{◌≡◌, ℕ, ℤ, Bool, true, false, List, [], ◌∷◌, Option, Some, None, option_map, unwrap_or, refl, sym, ap, subst}
use Rattle.std.specs.FinMap.{get}
use Rattle.std.specs.List.{cons_option, filter_map}
use Rattle.wb_dist.specs.Maps.{whole}
use Rattle.wb_cells.specs.declared.cells.cell.Cell.TheVariants.{Object, Shape, Mapping, Implicit, Element}
use Rattle.wb_cells.specs.declared.cells.kind.DomainKind.{DomainKind}
use Rattle.wb_cells.specs.declared.cells.kind.DomainKind.TheVariants.{Rectangular, Sparse, Associative}
use Rattle.wb_cells.specs.declared.cells.kind.Kind.{Kind}
use Rattle.wb_cells.specs.declared.cells.kind.Kind.TheVariants as kinds
use Rattle.wb_cells.specs.declared.cells.value.Value.{Value}
use Rattle.wb_cells.specs.declared.cells.value.Value.TheVariants as values
use Rattle.wb_cells.specs.declared.values.index.Index.{Index}
use Rattle.wb_cells.specs.Cells.{Name, Cells}
use Rattle.wb_cells.specs.Kinds.{kind_of}
use Rattle.wb_cells.specs.Locales.{mapping_in}
use Rattle.wb_cells.specs.Names.{is_name}
use Rattle.wb_cells.specs.Readers.{objects}
use Rattle.wb_cells.specs.WellFormed as wf
use Rattle.wb_cells.specs.WellFormed.{IsWellFormed, IsShape, HasMapping, IsElement, IsNumber, array_at, array_in, domain_at, domain_in, is_index_of_array}
use Rattle.wb_cells.specs.WellFormed.{ranges_in}
use Rattle.wb_text.specs.Said.{Line, domain_said, said_in, said_of, said}
use Rattle.wb_text.specs.Lines.{number_in, element_at, elements_at, indices_in, implicit_in, book_text}
use Rattle.wb_text.proofs.Readable.{Each}
use Rattle.wb_text.proofs.ReadIndices.{AreWithin}
use Rattle.wb_text.proofs.ReadRanges.{IsSpelled}
use Rattle.wb_text.proofs.ReadMappings.{IsMapped}
use Rattle.wb_text.proofs.ReadLines.{IsLine, IsImplicit}
use Rattle.wb_text.proofs.BookLines.{same_lines}
use Rattle.wb_text.proofs.MappingWritten.{mapping_written, rectangle_spelled}
use Rattle.wb_text.proofs.Numbers.{fits_within}
use Rattle.wb_text.proofs.MembersWritten.{sparse_members, associative_members}

none_some : {X Y : Type 0} (x : X) → None ≡ Some x → Y
none_some x e = cc

-- ---- numbers

number_within : (v : Option Value) → IsNumber v → IsImplicit (number_in v)
number_within v h = subst (λ o. IsImplicit (number_in o)) (sym h.1) (fits_within h.0 h.2)

one_more : (o : Option ℤ) (zs : List ℤ) → IsImplicit o → AreWithin zs → AreWithin (cons_option o zs)
one_more None zs h w = w
one_more (Some z) zs h w = (h, w)

element_within : (b : Bool) (v : Option Value) → IsElement b v → IsImplicit (number_in v)
element_within true v h = number_within v h
element_within false v h = subst (λ o. IsImplicit (number_in o)) (sym h) tt

elements_within : (s : Cells) (a : Name) → IsWellFormed s → (is : List Index) → AreWithin (elements_at s a is)
elements_within s a w [] = tt
elements_within s a w (i ∷ is) =
    one_more (element_at s a i) (elements_at s a is) (element_within (is_index_of_array s (array_at s a) i) (get s (Element a i)) (w.elements a i))
    (elements_within s a w is)

implicit_within : (s : Cells) (a d : Name) (kind : Kind) → IsWellFormed s → array_at s a ≡ Some (d, kind) → IsImplicit (implicit_in s a kind)
implicit_within s a d (kinds.Rectangular rank) w e = tt
implicit_within s a d (kinds.Sparse rank) w e = number_within (get s (Implicit a)) (subst (λ o. wf.IsImplicit o (get s (Implicit a))) e (w.implicits a))
implicit_within s a d (kinds.Associative type) w e = tt

-- ---- names of domains

domain_named : (s : Cells) (d : Name) (kind : DomainKind) → IsWellFormed s → domain_at s d ≡ Some kind → is_name d ≡ true
domain_named s d kind w = of (get s (Object d)) refl
  where
    of : (o : Option Value) → get s (Object d) ≡ o → domain_in o ≡ Some kind → is_name d ≡ true
    of None e f = none_some kind f
    of (Some v) e f = w.names d v e

bound_named : (s : Cells) (d : Name) (kind : Kind) → IsWellFormed s → option_map kind_of (domain_at s d) ≡ Some kind → is_name d ≡ true
bound_named s d kind w = of (domain_at s d) refl
  where
    of : (o : Option DomainKind) → domain_at s d ≡ o → option_map kind_of o ≡ Some kind → is_name d ≡ true
    of None e f = none_some kind f
    of (Some k) e f = domain_named s d k w e

-- ---- lines

ranges_written : (s : Cells) (d : Name) (rank : ℕ) → IsWellFormed s → domain_at s d ≡ Some (Rectangular rank) →
    Each IsSpelled (unwrap_or (ranges_in (get s (Shape d))) [])
ranges_written s d rank w is =
    let shape : IsShape (Some (Rectangular rank)) (get s (Shape d)) = subst (λ k. IsShape k (get s (Shape d))) is (w.shapes d) in
    subst (λ v. Each IsSpelled (unwrap_or (ranges_in v) [])) (sym shape.1) (rectangle_spelled rank shape.0 shape.2)

layout_written : (s : Cells) (d : Name) (rank : ℕ) → IsWellFormed s → domain_at s d ≡ Some (Rectangular rank) →
    IsMapped (unwrap_or (mapping_in (get s (Mapping d))) whole)
layout_written s d rank w is =
    let mapping : HasMapping (Some (Rectangular rank)) (get s (Mapping d)) = subst (λ k. HasMapping k (get s (Mapping d))) is (w.mappings d) in
    subst (λ v. IsMapped (unwrap_or (mapping_in v) whole)) (sym mapping.1) (mapping_written rank mapping.0 mapping.2)

domain_written : (s : Cells) (d : Name) (kind : DomainKind) → IsWellFormed s → get s (Object d) ≡ Some (values.Domain kind) → IsLine (domain_said s d kind)
domain_written s d (Rectangular rank) w e =
    let is = ap domain_in e in
    (w.names d _ e, ranges_written s d rank w is, layout_written s d rank w is)
domain_written s d (Sparse parent rank) w e =
    let within = w.objects d _ e in
    (w.names d _ e, domain_named s parent (Rectangular rank) w within, sparse_members s d parent rank w (ap domain_in e) within)
domain_written s d (Associative type) w e = (w.names d _ e, associative_members s d type w (ap domain_in e))

abbrev AreLines : Option Line → Type 0
AreLines None = Unit {0}
AreLines (Some l) = IsLine l

value_written : (s : Cells) (n : Name) (v : Option Value) → IsWellFormed s → get s (Object n) ≡ v → AreLines (said_in s n v)
value_written s n None w e = tt
value_written s n (Some (values.Domain kind)) w e = domain_written s n kind w e
value_written s n (Some (values.Array d kind)) w e =
    (w.names n _ e, bound_named s d kind w (w.objects n _ e), elements_within s n w (indices_in s d kind), implicit_within s n d kind w (ap array_in e))
value_written s n (Some v) w e = tt

line_more : (o : Option Line) (ls : List Line) → AreLines o → Each IsLine ls → Each IsLine (cons_option o ls)
line_more None ls h w = w
line_more (Some l) ls h w = (h, w)

names_written : (s : Cells) → IsWellFormed s → (ns : List Name) → Each IsLine (filter_map (said_of s) ns)
names_written s w [] = tt
names_written s w (n ∷ ns) =
    line_more (said_of s n) (filter_map (said_of s) ns) (value_written s n (get s (Object n)) w refl) (names_written s w ns)

pub said_written : (s : Cells) → IsWellFormed s → Each IsLine (said s)
said_written s w = names_written s w (objects s)

-- two well-formed workbooks with one text have the same lines
pub one_text_one_list : (s t : Cells) → IsWellFormed s → IsWellFormed t → book_text s ≡ book_text t → said s ≡ said t
one_text_one_list s t v w e = same_lines s t (said_written s v) (said_written t w) e

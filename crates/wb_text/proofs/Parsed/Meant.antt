-- What the literals of a well-formed workbook's lines stand for is within the limits, and the indices of each set are alike.
use Rattle.std.proofs.Common.{◌≡◌, ◌==◌, ℕ, ℤ, nat_eq, Bool, true, false, List, [], ◌∷◌, Option, Some, None, is_some, unwrap_or, length, refl, sym, ap, ◌∙◌}
use Rattle.std.proofs.Common.{subst, eq-eqb, eqb-true, arith}
use Rattle.std.specs.FinMap.{get}
use Rattle.std.specs.List.{cons_option, filter_map}
use Rattle.wb_rect.specs.Product.{IsRectangle}
use Rattle.wb_dist.specs.Maps.{whole}
use Rattle.wb_cells.specs.declared.cells.cell.Cell.TheVariants.{Object, Shape, In, Member, Mapping}
use Rattle.wb_cells.specs.declared.cells.kind.DomainKind.{DomainKind}
use Rattle.wb_cells.specs.declared.cells.kind.DomainKind.TheVariants.{Rectangular, Sparse, Associative}
use Rattle.wb_cells.specs.declared.cells.kind.KeyType.{KeyType}
use Rattle.wb_cells.specs.declared.cells.kind.KeyType.TheVariants as types
use Rattle.wb_cells.specs.declared.cells.kind.Kind.TheVariants as kinds
use Rattle.wb_cells.specs.declared.cells.value.Value.{Value}
use Rattle.wb_cells.specs.declared.cells.value.Value.TheVariants as values
use Rattle.wb_cells.specs.declared.values.index.Index.{Index}
use Rattle.wb_cells.specs.declared.values.index.Index.TheVariants.{Point, Text}
use Rattle.wb_cells.specs.Cells.{Name, Cells}
use Rattle.wb_cells.specs.Kinds.{is_point, is_key, IsIndex}
use Rattle.wb_cells.specs.Layouts.{IsMapping}
use Rattle.wb_cells.specs.Locales.{mapping_in}
use Rattle.wb_cells.specs.Readers.{objects}
use Rattle.wb_cells.specs.Shapes.{indices}
use Rattle.wb_cells.specs.WellFormed.{IsWellFormed, IsShape, HasMapping, IsMember, MayHave, domain_at, domain_in, has, inside_of, present_if, ranges_in}
use Rattle.wb_cells.proofs.Inside.{has_no_text, has_none_of_other_rank}
use Rattle.wb_text.specs.Lines.{members}
use Rattle.wb_text.specs.Said.{Line, domain_said, said_in, said_of, said}
use Rattle.wb_text.proofs.MembersWritten.{members_each, sparse_members, associative_members}
use Rattle.wb_text.proofs.Readable.{Each}
use Rattle.wb_text.proofs.ReadIndices.{AreWithin, IsPoint, IsWritten}
use Rattle.wb_text.proofs.Parsed.Back.Lines.{IsMeant}
use Rattle.wb_text.proofs.Parsed.Back.Sets.{IsOfRank, IsOfText, AreAlike, points, labels}

true_false : {X : Type 0} → false ≡ true → X
true_false e = cc

-- ---- the indices of a set

-- an index that may be written and has so many coordinates
of_rank : (rank : ℕ) (i : Index) → IsWritten i → is_point rank i ≡ true → IsOfRank rank i
of_rank rank (Point is) w e = (eqb-true (length is) rank e, within is w)
  where
    within : (is : List ℤ) → IsPoint is → AreWithin is
    within [] h = absurd h
    within (i ∷ is) h = h
of_rank rank (Text t) w e = true_false e

each_of_rank : (rank : ℕ) (is : List Index) → Each IsWritten is → Each (λ i. is_point rank i ≡ true) is → Each (IsOfRank rank) is
each_of_rank rank [] w e = tt
each_of_rank rank (i ∷ is) w e = (of_rank rank i w.0 e.0, each_of_rank rank is w.1 e.1)

-- a member of a domain is one that it may have
may_have : (s : Cells) (kind : Option DomainKind) (i : Index) (o : Option Value) → IsMember s kind i o → is_some o ≡ true → MayHave s kind i
may_have s kind i None m e = true_false e
may_have s kind i (Some v) m e = m.1

member_may : (s : Cells) (d : Name) (kind : DomainKind) (i : Index) → IsWellFormed s → domain_at s d ≡ Some kind → is_some (get s (Member d i)) ≡ true →
    MayHave s (Some kind) i
member_may s d kind i w is there = subst (λ k. MayHave s k i) is (may_have s (domain_at s d) i (get s (Member d i)) (w.members d i) there)

-- ---- sparse domains

shape_at : (s : Cells) (d : Name) (rank : ℕ) → IsWellFormed s → domain_at s d ≡ Some (Rectangular rank) → IsShape (Some (Rectangular rank)) (get s (Shape d))
shape_at s d rank w is = subst (λ k. IsShape k (get s (Shape d))) is (w.shapes d)

present_known : (b : Bool) → present_if b ≡ Some values.Present → b ≡ true
present_known true e = refl
present_known false e = cc

rank_by : (b : Bool) (rs : List (List ℤ)) (is : List ℤ) (rank : ℕ) → nat_eq (length is) rank ≡ b → length rs ≡ rank → has (indices rs) (Point is) ≡ true →
    b ≡ true
rank_by true rs is rank e f h = refl
rank_by false rs is rank e f h = true_false (has_none_of_other_rank rs is
    (λ same. let g = ap (nat_eq (length is)) (sym f) in let t = eq-eqb (length is) (length rs) same in cc) ∙ h)

rank_of : (rank : ℕ) (rs : List (List ℤ)) (i : Index) → IsRectangle rank rs → has (indices rs) i ≡ true → is_point rank i ≡ true
rank_of rank rs (Text t) r h = true_false (has_no_text rs t ∙ h)
rank_of rank rs (Point is) r h = rank_by (length is == rank) rs is rank refl r.dimensions h

inside_rank : (s : Cells) (parent : Name) (rank : ℕ) (i : Index) → IsWellFormed s → domain_at s parent ≡ Some (Rectangular rank) →
    get s (In parent i) ≡ Some values.Present → is_point rank i ≡ true
inside_rank s parent rank i w is e =
    let shape = shape_at s parent rank w is in
    let rs = shape.0 in
    rank_of rank rs i shape.2 (present_known (has (indices rs) i) (sym (ap (λ v. inside_of (ranges_in v) i) shape.1) ∙ sym (w.insides parent i) ∙ e))

sparse_alike : (s : Cells) (d parent : Name) (rank : ℕ) → IsWellFormed s → domain_at s d ≡ Some (Sparse parent rank) →
    domain_at s parent ≡ Some (Rectangular rank) → AreAlike (members s d)
sparse_alike s d parent rank w is within =
    let r = (shape_at s parent rank w within).2 in
    points rank r.at_least_one r.at_most_three (each_of_rank rank (members s d) (sparse_members s d parent rank w is within)
    (members_each (λ i. is_point rank i ≡ true) s d (λ i there. inside_rank s parent rank i w within (member_may s d (Sparse parent rank) i w is there))))

-- ---- associative domains

of_text : (i : Index) → is_key (kinds.Associative types.Text) i ≡ true → IsIndex i → IsOfText i
of_text (Point is) e h = true_false e
of_text (Text t) e h = h

associative_alike : (s : Cells) (d : Name) (type : KeyType) → IsWellFormed s → domain_at s d ≡ Some (Associative type) → AreAlike (members s d)
associative_alike s d types.Int w is =
    points 1 (omega arith) (omega arith) (each_of_rank 1 (members s d) (associative_members s d types.Int w is)
    (members_each (λ i. is_point 1 i ≡ true) s d (λ i there. (member_may s d (Associative types.Int) i w is there).0)))
associative_alike s d types.Text w is =
    labels (members_each IsOfText s d (λ i there. let may = member_may s d (Associative types.Text) i w is there in of_text i may.0 may.1))

-- ---- lines

rectangular_meant : (s : Cells) (d : Name) (rank : ℕ) → IsWellFormed s → domain_at s d ≡ Some (Rectangular rank) → IsMeant (domain_said s d (Rectangular rank))
rectangular_meant s d rank w is =
    let shape = shape_at s d rank w is in
    let mapping : HasMapping (Some (Rectangular rank)) (get s (Mapping d)) = subst (λ k. HasMapping k (get s (Mapping d))) is (w.mappings d) in (
      rank,
      subst (λ v. IsRectangle rank (unwrap_or (ranges_in v) [])) (sym shape.1) shape.2,
      subst (λ v. IsMapping rank (unwrap_or (mapping_in v) whole)) (sym mapping.1) mapping.2,
    )

domain_meant : (s : Cells) (d : Name) (kind : DomainKind) → IsWellFormed s → get s (Object d) ≡ Some (values.Domain kind) → IsMeant (domain_said s d kind)
domain_meant s d (Rectangular rank) w e = rectangular_meant s d rank w (ap domain_in e)
domain_meant s d (Sparse parent rank) w e = sparse_alike s d parent rank w (ap domain_in e) (w.objects d _ e)
domain_meant s d (Associative type) w e = associative_alike s d type w (ap domain_in e)

abbrev AreMeant : Option Line → Type 0
AreMeant None = Unit {0}
AreMeant (Some l) = IsMeant l

value_meant : (s : Cells) (n : Name) (v : Option Value) → IsWellFormed s → get s (Object n) ≡ v → AreMeant (said_in s n v)
value_meant s n None w e = tt
value_meant s n (Some (values.Domain kind)) w e = domain_meant s n kind w e
value_meant s n (Some (values.Array d kind)) w e = tt
value_meant s n (Some v) w e = tt

line_more : (o : Option Line) (ls : List Line) → AreMeant o → Each IsMeant ls → Each IsMeant (cons_option o ls)
line_more None ls h k = k
line_more (Some l) ls h k = (h, k)

names_meant : (s : Cells) → IsWellFormed s → (ns : List Name) → Each IsMeant (filter_map (said_of s) ns)
names_meant s w [] = tt
names_meant s w (n ∷ ns) = line_more (said_of s n) (filter_map (said_of s) ns) (value_meant s n (get s (Object n)) w refl) (names_meant s w ns)

pub said_meant : (s : Cells) → IsWellFormed s → Each IsMeant (said s)
said_meant s w = names_meant s w (objects s)

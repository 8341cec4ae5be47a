-- The indices of a sparse or associative domain of a well-formed workbook may be written.
use Rattle.std.proofs.Common.{◌≡◌, ℕ, zero, suc, ℤ, Bool, true, false, ◌||◌, cond, nat_le, List, [], ◌∷◌, map, Option, Some, None, is_some, length, refl, sym}
use Rattle.std.proofs.Common.{ap, ◌∙◌, subst, arith}
use Rattle.std.proofs.lemmas.List.Elements.{recursion_from_All}
use Rattle.std.specs.Cmp.{Equal-is, eq_by_cmp_equiv}
use Rattle.std.specs.FinMap.{get, keys, entries, retain_keys, contains_key-keys, get-retain_keys}
use Rattle.std.specs.List.{AllByRecursion, Contains, filter_map, list_all, list_any}
use Rattle.std.specs.Ordering.{eq_by_cmp}
use Rattle.wb_range.specs.Canonical.{IsRange}
use Rattle.wb_rect.specs.Product.{IsRectangle, product}
use Rattle.wb_rect.proofs.Common.{pair_of}
use Rattle.wb_sets.specs.Labels.{is_plain}
use Rattle.wb_cells.specs.declared.cells.cell.Cell.{Cell}
use Rattle.wb_cells.specs.declared.cells.cell.Cell.TheVariants.{Shape, In, Member}
use Rattle.wb_cells.specs.declared.cells.kind.DomainKind.{DomainKind}
use Rattle.wb_cells.specs.declared.cells.kind.DomainKind.TheVariants.{Rectangular, Sparse, Associative}
use Rattle.wb_cells.specs.declared.cells.kind.KeyType.TheVariants as types
use Rattle.wb_cells.specs.declared.cells.kind.KeyType.{KeyType}
use Rattle.wb_cells.specs.declared.cells.kind.Kind.TheVariants as kinds
use Rattle.wb_cells.specs.declared.cells.pattern.Pattern.{Pattern}
use Rattle.wb_cells.specs.declared.cells.pattern.Pattern.TheVariants.{Members}
use Rattle.wb_cells.specs.declared.cells.value.Value.{Value}
use Rattle.wb_cells.specs.declared.cells.value.Value.TheVariants.{Present}
use Rattle.wb_cells.specs.declared.values.index.Index.{Index}
use Rattle.wb_cells.specs.declared.values.index.Index.TheVariants.{Point, Text}
use Rattle.wb_cells.specs.Cells.{Name, Cells, cell_cmp, cell_order, same_names, matches}
use Rattle.wb_cells.specs.Kinds.{is_key, IsIndex}
use Rattle.wb_cells.specs.Shapes.{indices}
use Rattle.wb_cells.specs.WellFormed.{IsWellFormed, IsShape, IsMember, MayHave, domain_at, has, inside_of, present_if, ranges_in}
use Rattle.wb_cells.proofs.Inside.{has_point, has_no_text, has_none_of_other_rank}
use Rattle.wb_text.specs.Lines.{member_in, members}
use Rattle.wb_text.proofs.Readable.{Each, both}
use Rattle.wb_text.proofs.Numbers.{fit_within}
use Rattle.wb_text.proofs.ReadIndices.{AreWithin, IsWritten}
use Rattle.wb_text.proofs.RangeSpelled.{member_within}

-- ---- what a look shows is there

weaker : (k : Cell) (ks cs : List Cell) → AllByRecursion (λ c. list_any (eq_by_cmp cell_cmp c) ks ≡ true) cs →
    AllByRecursion (λ c. list_any (eq_by_cmp cell_cmp c) (k ∷ ks) ≡ true) cs
weaker k ks [] h = tt
weaker k ks (c ∷ cs) h = (or_true (eq_by_cmp cell_cmp c k) (list_any (eq_by_cmp cell_cmp c) ks) h.0, weaker k ks cs h.1)
  where
    or_true : (a b : Bool) → b ≡ true → a || b ≡ true
    or_true true b e = refl
    or_true false b e = e

among : (ks : List Cell) → AllByRecursion (λ c. list_any (eq_by_cmp cell_cmp c) ks ≡ true) ks
among [] = tt
among (k ∷ ks) = (ap (λ b. b || list_any (eq_by_cmp cell_cmp k) ks) ((eq_by_cmp_equiv cell_order.total).refl k), weaker k ks ks (among ks))

-- a cell that the pattern names and that is there
pub record IsThere (s : Cells) (p : Pattern) (c : Cell) : Type 0 where
  pub named : matches p c ≡ true
  pub there : is_some (get s c) ≡ true

by_test : (b : Bool) (o : Option Value) → is_some (cond b o None) ≡ true → (b ≡ true) × (is_some o ≡ true)
by_test true o e = (refl, e)
by_test false o e = cc

is_there : (s : Cells) (p : Pattern) (c : Cell) → list_any (eq_by_cmp cell_cmp c) (keys (retain_keys s (matches p))) ≡ true → IsThere s p c
is_there s p c e =
    let kept = get-retain_keys s (matches p) c (λ x tie. ap (matches p) (sym (cell_order.strict c x tie))) in
    let parts = by_test (matches p c) (get s c) (sym (ap is_some kept) ∙ contains_key-keys (retain_keys s (matches p)) c ∙ e) in
    record { named = parts.0; there = parts.1 }

each_there : (s : Cells) (p : Pattern) (cs : List Cell) → AllByRecursion (λ c. list_any (eq_by_cmp cell_cmp c) (keys (retain_keys s (matches p))) ≡ true) cs →
    AllByRecursion (IsThere s p) cs
each_there s p [] h = tt
each_there s p (c ∷ cs) h = (is_there s p c h.0, each_there s p cs h.1)

pub seen_there : (s : Cells) (p : Pattern) → AllByRecursion (IsThere s p) (keys (retain_keys s (matches p)))
seen_there s p = each_there s p _ (among (keys (retain_keys s (matches p))))

-- a fact of each member that is there, of all of them
each_member : (P : Index → Type 0) (s : Cells) (d : Name) → ((i : Index) → is_some (get s (Member d i)) ≡ true → P i) → (es : List (Cell × Value)) →
    AllByRecursion (IsThere s (Members d)) (map (λ e. e.0) es) → Each P (filter_map member_in es)
each_member P s d fact [] h = tt
each_member P s d fact ((Member f i, v) ∷ es) h =
    let same : d ≡ f = same_names d f ((Equal-is _).0 h.0.named) in
    (fact i (subst (λ n. is_some (get s (Member n i)) ≡ true) (sym same) h.0.there), each_member P s d fact es h.1)
each_member P s d fact (e ∷ es) h = each_member P s d fact es h.1

pub members_each : (P : Index → Type 0) (s : Cells) (d : Name) → ((i : Index) → is_some (get s (Member d i)) ≡ true → P i) → Each P (members s d)
members_each P s d fact = each_member P s d fact (entries (retain_keys s (matches (Members d)))) (seen_there s (Members d))

-- ---- points of a rectangle

product_within : (rs : List (List ℤ)) (is : List ℤ) → AllByRecursion IsRange rs → Contains (product rs) is → AreWithin is
product_within [] is h (zero, l, e) = subst AreWithin e tt
product_within [] is h (suc k, l, e) = absurd (omega arith)
product_within (xs ∷ rs) is h m =
    let p = pair_of xs (product rs) is m in
    subst AreWithin (sym p.whole) (member_within xs p.head h.0 p.head_in, product_within rs p.tail h.1 p.tail_in)

true_false : {X : Type 0} → false ≡ true → X
true_false e = cc

point_written : (rank : ℕ) (rs : List (List ℤ)) (i : Index) → IsRectangle rank rs → has (indices rs) i ≡ true → IsWritten i
point_written rank rs (Text t) r e = true_false (has_no_text rs t ∙ e)
point_written rank rs (Point []) r e =
    let dims = r.dimensions in let some = r.at_least_one in
    true_false (has_none_of_other_rank rs [] (λ (z : 0 ≡ length rs). omega (arith, z, dims, some)) ∙ e)
point_written rank rs (Point (i ∷ is)) r e = product_within rs (i ∷ is) (recursion_from_All IsRange rs r.kept) ((has_point rs (i ∷ is)).0 e)

pub present_known : (b : Bool) → present_if b ≡ Some Present → b ≡ true
present_known true e = refl
present_known false e = cc

sparse_written : (s : Cells) (parent : Name) (rank : ℕ) (i : Index) → IsWellFormed s → domain_at s parent ≡ Some (Rectangular rank) →
    get s (In parent i) ≡ Some Present → IsWritten i
sparse_written s parent rank i w is e =
    let shape : IsShape (Some (Rectangular rank)) (get s (Shape parent)) = subst (λ k. IsShape k (get s (Shape parent))) is (w.shapes parent) in
    let rs = shape.0 in
    point_written rank rs i shape.2 (present_known (has (indices rs) i) (sym (ap (λ v. inside_of (ranges_in v) i) shape.1) ∙ sym (w.insides parent i) ∙ e))

-- ---- indices of an associative domain

key_written : (type : KeyType) (i : Index) → is_key (kinds.Associative type) i ≡ true → IsIndex i → IsWritten i
key_written types.Int (Text t) e h = true_false e
key_written types.Int (Point []) e h = true_false e
key_written types.Int (Point (i ∷ is)) e h = fit_within (i ∷ is) h
key_written types.Text (Point is) e h = true_false e
key_written types.Text (Text t) e h = (both (nat_le (length t) 64) (list_all is_plain t) h.accepted).1

-- ---- members

pub has_members : (s : Cells) (kind : Option DomainKind) (i : Index) (o : Option Value) → IsMember s kind i o → is_some o ≡ true → MayHave s kind i
has_members s kind i None m e = true_false e
has_members s kind i (Some v) m e = m.1

pub sparse_members : (s : Cells) (d parent : Name) (rank : ℕ) → IsWellFormed s → domain_at s d ≡ Some (Sparse parent rank) →
    domain_at s parent ≡ Some (Rectangular rank) → Each IsWritten (members s d)
sparse_members s d parent rank w is within =
    members_each IsWritten s d (λ i there.
    sparse_written s parent rank i w within (subst (λ k. MayHave s k i) is (has_members s (domain_at s d) i (get s (Member d i)) (w.members d i) there)))

pub associative_members : (s : Cells) (d : Name) (type : KeyType) → IsWellFormed s → domain_at s d ≡ Some (Associative type) → Each IsWritten (members s d)
associative_members s d type w is =
    members_each IsWritten s d (λ i there.
    let may = subst (λ k. MayHave s k i) is (has_members s (domain_at s d) i (get s (Member d i)) (w.members d i) there) in
    key_written type i may.0 may.1)

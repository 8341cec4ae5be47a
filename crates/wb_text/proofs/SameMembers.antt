-- Two well-formed workbooks with the same lines have the same implicit values, and the same indices of each domain.
use Rattle.std.proofs.Common.{◌≡◌, ℕ, ℤ, true, cond, ◌||◌, List, [], ◌∷◌, map, Option, Some, None, is_some, refl, sym, ap, ◌∙◌, subst, Ordering}
use Rattle.std.specs.Cmp.{Equal-is, eq_by_cmp_equiv}
use Rattle.std.specs.Cmp.Lexicographic.{slice_cmp, nat_list_cmp_total}
use Rattle.std.specs.FinMap.{get, entries, retain_keys, contains_key-keys, get-retain_keys}
use Rattle.std.specs.List.{AllByRecursion, filter_map, list_any}
use Rattle.std.specs.Ordering.{eq_by_cmp, is_eq, nat_cmp, ordering_then}
use Rattle.std.specs.declared.cmp.Ordering.TheVariants.{Less, Equal, Greater}
use Rattle.wb_cells.specs.declared.cells.cell.Cell.{Cell}
use Rattle.wb_cells.specs.declared.cells.cell.Cell.TheVariants.{Object, Member, Implicit}
use Rattle.wb_cells.specs.declared.cells.kind.Kind.{Kind}
use Rattle.wb_cells.specs.declared.cells.kind.Kind.TheVariants as kinds
use Rattle.wb_cells.specs.declared.cells.pattern.Pattern.TheVariants.{Members}
use Rattle.wb_cells.specs.declared.cells.value.Value.{Value}
use Rattle.wb_cells.specs.declared.cells.value.Value.TheVariants as values
use Rattle.wb_cells.specs.declared.values.index.Index.{Index}
use Rattle.wb_cells.specs.Cells.{Name, Cells, cell_cmp, cell_order, index_cmp, matches}
use Rattle.wb_cells.specs.WellFormed.{IsWellFormed, IsImplicit, array_at, array_in, has}
use Rattle.wb_text.specs.Said.{Line, array, said_in, said_of, said}
use Rattle.wb_text.specs.Lines.{member_in, members, number_in, elements_at, indices_in, implicit_in}
use Rattle.wb_text.proofs.ReadIndices.{some_same}
use Rattle.wb_text.proofs.LineOfName.{same_line}
use Rattle.wb_text.proofs.MembersWritten.{IsThere, seen_there}
use Rattle.wb_text.proofs.SameDomains.{none_some}
use Rattle.wb_text.proofs.SameObjects.{objects_same}

-- ---- implicit values

pub array_object : (o : Option Value) (d : Name) (kind : Kind) → array_in o ≡ Some (d, kind) → o ≡ Some (values.Array d kind)
array_object None d kind e = none_some (d, kind) e
array_object (Some (values.Array c k)) d kind e = ap (λ (p : Name × Kind). Some (values.Array p.0 p.1)) (some_same (c, k) (d, kind) e)
array_object (Some v) d kind e = none_some (d, kind) e

abbrev array_said : Cells → Name → Name → Kind → Line
array_said s a d kind = array a d (elements_at s a (indices_in s d kind)) (implicit_in s a kind)

array_line : (s : Cells) (a d : Name) (kind : Kind) → array_at s a ≡ Some (d, kind) → said_of s a ≡ Some (array_said s a d kind)
array_line s a d kind e = ap (said_in s a) (array_object (get s (Object a)) d kind e)

pub arrays_said : (s t : Cells) → IsWellFormed s → IsWellFormed t → said s ≡ said t → (a d : Name) (kind : Kind) → array_at s a ≡ Some (d, kind) →
    array_said s a d kind ≡ array_said t a d kind
arrays_said s t v w same a d kind e =
    some_same _ _ (sym (array_line s a d kind e) ∙ same_line s t same a ∙ array_line t a d kind (sym (ap array_in (objects_same s t v w same a)) ∙ e))

implicit_same : (a b d e : Name) (xs ys : List ℤ) (z w : Option ℤ) → array a d xs z ≡ array b e ys w → z ≡ w
implicit_same a b d e xs ys z w f = cc

by_implicit : (o : Option (Name × Kind)) (a b : Option Value) → IsImplicit o a → IsImplicit o b →
    ((d : Name) (rank : ℕ) → o ≡ Some (d, kinds.Sparse rank) → number_in a ≡ number_in b) → a ≡ b
by_implicit None a b h i fact = h ∙ sym i
by_implicit (Some (d, kinds.Rectangular rank)) a b h i fact = h ∙ sym i
by_implicit (Some (d, kinds.Sparse rank)) a b h i fact =
    h.1 ∙ ap (λ z. Some (values.Number z)) (some_same h.0 i.0 (sym (ap number_in h.1) ∙ fact d rank refl ∙ ap number_in i.1)) ∙ sym i.1
by_implicit (Some (d, kinds.Associative type)) a b h i fact = h ∙ sym i

pub implicits_same : (s t : Cells) → IsWellFormed s → IsWellFormed t → said s ≡ said t → (a : Name) → get s (Implicit a) ≡ get t (Implicit a)
implicits_same s t v w same a =
    by_implicit (array_at s a) (get s (Implicit a)) (get t (Implicit a)) (v.implicits a)
    (subst (λ o. IsImplicit o (get t (Implicit a))) (sym (ap array_in (objects_same s t v w same a))) (w.implicits a))
    (λ d rank is. implicit_same _ _ _ _ _ _ _ _ (arrays_said s t v w same a d (kinds.Sparse rank) is))

-- ---- members: a list of them tells which are there

second_tie : (o r : Ordering) → o ≡ Equal → is_eq (ordering_then o r) ≡ is_eq r
second_tie Equal r e = refl
second_tie Less r e = cc
second_tie Greater r e = cc

listed : (s : Cells) (d : Name) (i : Index) (es : List (Cell × Value)) → AllByRecursion (IsThere s (Members d)) (map (λ e. e.0) es) →
    list_any (eq_by_cmp cell_cmp (Member d i)) (map (λ e. e.0) es) ≡ has (filter_map member_in es) i
listed s d i [] h = refl
listed s d i ((Member f j, v) ∷ es) h =
    ap (λ b. b || list_any (eq_by_cmp cell_cmp (Member d i)) (map (λ e. e.0) es))
    (second_tie (slice_cmp nat_cmp d f) (index_cmp i j) ((Equal-is _).0 h.0.named))
    ∙ ap (λ b. is_eq (index_cmp i j) || b) (listed s d i es h.1)
listed s d i (e ∷ es) h = listed s d i es h.1

pub member_listed : (s : Cells) (d : Name) (i : Index) → is_some (get s (Member d i)) ≡ has (members s d) i
member_listed s d i =
    let named : matches (Members d) (Member d i) ≡ true = (eq_by_cmp_equiv nat_list_cmp_total).refl d in
    let kept = get-retain_keys s (matches (Members d)) (Member d i) (λ x tie. ap (matches (Members d)) (sym (cell_order.strict (Member d i) x tie))) in
    sym (ap is_some (kept ∙ ap (λ b. cond b (get s (Member d i)) None) named))
    ∙ contains_key-keys (retain_keys s (matches (Members d))) (Member d i)
    ∙ listed s d i (entries (retain_keys s (matches (Members d)))) (seen_there s (Members d))

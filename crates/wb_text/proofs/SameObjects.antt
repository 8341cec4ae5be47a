-- Two well-formed workbooks with the same lines have the same objects, ranges and mappings.
use Rattle.std.proofs.Common.{◌≡◌, ℕ, ℤ, List, [], Option, Some, None, option_map, unwrap_or, refl, sym, ap, ◌∙◌, subst}
use Rattle.std.specs.FinMap.{get}
use Rattle.wb_dist.specs.Maps.{LayoutMap, whole}
use Rattle.wb_cells.specs.declared.cells.cell.Cell.TheVariants.{Object, Shape, In, Mapping, Use}
use Rattle.wb_cells.specs.declared.cells.kind.DomainKind.{DomainKind}
use Rattle.wb_cells.specs.declared.cells.kind.DomainKind.TheVariants.{Rectangular, Sparse, Associative}
use Rattle.wb_cells.specs.declared.cells.kind.Kind.{Kind}
use Rattle.wb_cells.specs.declared.cells.value.Value.{Value}
use Rattle.wb_cells.specs.declared.cells.value.Value.TheVariants as values
use Rattle.wb_cells.specs.declared.values.index.Index.{Index}
use Rattle.wb_cells.specs.Cells.{Name, Cells}
use Rattle.wb_cells.specs.Kinds.{kind_of}
use Rattle.wb_cells.specs.Locales.{mapping_in}
use Rattle.wb_cells.specs.WellFormed.{IsWellFormed, IsShape, HasMapping, domain_at, domain_in, ranges_in, inside_of, use_of}
use Rattle.wb_text.specs.Said.{rectangular, array, said_in, said}
use Rattle.wb_text.proofs.ReadIndices.{some_same}
use Rattle.wb_text.proofs.LineOfName.{same_line}
use Rattle.wb_text.proofs.SameDomains.{none_some, both_said, domains_same}

over_same : (a b d e : Name) (xs ys : List ℤ) (z w : Option ℤ) → array a d xs z ≡ array b e ys w → d ≡ e
over_same a b d e xs ys z w f = cc

array_same : (d e : Name) (k l : Kind) → d ≡ e → k ≡ l → Some (values.Array d k) ≡ Some (values.Array e l)
array_same d e k l f g = cc

-- ---- objects

same_value : (s t : Cells) → IsWellFormed s → IsWellFormed t → said s ≡ said t → (n : Name) (o p : Option Value) → get s (Object n) ≡ o →
    get t (Object n) ≡ p → said_in s n o ≡ said_in t n p → domain_in o ≡ domain_in p → o ≡ p
same_value s t v w same n None None e f g h = refl
same_value s t v w same n None (Some (values.Domain k)) e f g h = none_some k h
same_value s t v w same n None (Some (values.Array d k)) e f g h = none_some _ g
same_value s t v w same n None (Some x) e f g h = absurd (w.objects n _ f)
same_value s t v w same n (Some (values.Domain k)) None e f g h = none_some k (sym h)
same_value s t v w same n (Some (values.Domain k)) (Some (values.Domain l)) e f g h = ap (λ x. Some (values.Domain x)) (some_same k l h)
same_value s t v w same n (Some (values.Domain k)) (Some x) e f g h = none_some k (sym h)
same_value s t v w same n (Some (values.Array d k)) None e f g h = none_some _ (sym g)
same_value s t v w same n (Some (values.Array d k)) (Some (values.Domain l)) e f g h = none_some l h
same_value s t v w same n (Some (values.Array d k)) (Some (values.Array c l)) e f g h =
    let over : d ≡ c = over_same _ _ _ _ _ _ _ _ (some_same _ _ g) in
    let kinds : k ≡ l = some_same k l (sym (v.objects n _ e) ∙ ap (option_map kind_of) (domains_same s t v w same d ∙ ap (domain_at t) over) ∙ w.objects n _ f)
    in
    array_same d c k l over kinds
same_value s t v w same n (Some (values.Array d k)) (Some x) e f g h = none_some _ (sym g)
same_value s t v w same n (Some x) p e f g h = absurd (v.objects n _ e)

pub objects_same : (s t : Cells) → IsWellFormed s → IsWellFormed t → said s ≡ said t → (n : Name) → get s (Object n) ≡ get t (Object n)
objects_same s t v w same n = same_value s t v w same n (get s (Object n)) (get t (Object n)) refl refl (same_line s t same n) (domains_same s t v w same n)

pub uses_same : (s t : Cells) → IsWellFormed s → IsWellFormed t → said s ≡ said t → (d n : Name) → get s (Use d n) ≡ get t (Use d n)
uses_same s t v w same d n = v.uses d n ∙ ap (use_of d) (objects_same s t v w same n) ∙ sym (w.uses d n)

-- ---- ranges

abbrev ranges_or_none : Option Value → List (List ℤ)
ranges_or_none v = unwrap_or (ranges_in v) []

by_ranges : (k : Option DomainKind) (a b : Option Value) → IsShape k a → IsShape k b →
    ((rank : ℕ) → k ≡ Some (Rectangular rank) → ranges_or_none a ≡ ranges_or_none b) → a ≡ b
by_ranges None a b h i fact = h ∙ sym i
by_ranges (Some (Rectangular rank)) a b h i fact =
    h.1 ∙ ap (λ rs. Some (values.Ranges rs)) (sym (ap ranges_or_none h.1) ∙ fact rank refl ∙ ap ranges_or_none i.1) ∙ sym i.1
by_ranges (Some (Sparse parent rank)) a b h i fact = h ∙ sym i
by_ranges (Some (Associative type)) a b h i fact = h ∙ sym i

ranges_same : (d e : Name) (rs us : List (List ℤ)) (m n : LayoutMap) → rectangular d rs m ≡ rectangular e us n → rs ≡ us
ranges_same d e rs us m n f = cc

pub shapes_same : (s t : Cells) → IsWellFormed s → IsWellFormed t → said s ≡ said t → (d : Name) → get s (Shape d) ≡ get t (Shape d)
shapes_same s t v w same d =
    by_ranges (domain_at s d) (get s (Shape d)) (get t (Shape d)) (v.shapes d)
    (subst (λ k. IsShape k (get t (Shape d))) (sym (domains_same s t v w same d)) (w.shapes d))
    (λ rank is. ranges_same d d _ _ _ _ (both_said s t same d (Rectangular rank) (Rectangular rank) is (sym (domains_same s t v w same d) ∙ is)))

pub insides_same : (s t : Cells) → IsWellFormed s → IsWellFormed t → said s ≡ said t → (d : Name) (i : Index) → get s (In d i) ≡ get t (In d i)
insides_same s t v w same d i = v.insides d i ∙ ap (λ x. inside_of (ranges_in x) i) (shapes_same s t v w same d) ∙ sym (w.insides d i)

-- ---- mappings

abbrev mapping_or_whole : Option Value → LayoutMap
mapping_or_whole v = unwrap_or (mapping_in v) whole

by_mapping : (k : Option DomainKind) (a b : Option Value) → HasMapping k a → HasMapping k b →
    ((rank : ℕ) → k ≡ Some (Rectangular rank) → mapping_or_whole a ≡ mapping_or_whole b) → a ≡ b
by_mapping None a b h i fact = h ∙ sym i
by_mapping (Some (Rectangular rank)) a b h i fact =
    h.1 ∙ ap (λ m. Some (values.Mapping m)) (sym (ap mapping_or_whole h.1) ∙ fact rank refl ∙ ap mapping_or_whole i.1) ∙ sym i.1
by_mapping (Some (Sparse parent rank)) a b h i fact = h ∙ sym i
by_mapping (Some (Associative type)) a b h i fact = h ∙ sym i

mapping_same : (d e : Name) (rs us : List (List ℤ)) (m n : LayoutMap) → rectangular d rs m ≡ rectangular e us n → m ≡ n
mapping_same d e rs us m n f = cc

pub mappings_same : (s t : Cells) → IsWellFormed s → IsWellFormed t → said s ≡ said t → (d : Name) → get s (Mapping d) ≡ get t (Mapping d)
mappings_same s t v w same d =
    by_mapping (domain_at s d) (get s (Mapping d)) (get t (Mapping d)) (v.mappings d)
    (subst (λ k. HasMapping k (get t (Mapping d))) (sym (domains_same s t v w same d)) (w.mappings d))
    (λ rank is. mapping_same d d _ _ _ _ (both_said s t same d (Rectangular rank) (Rectangular rank) is (sym (domains_same s t v w same d) ∙ is)))

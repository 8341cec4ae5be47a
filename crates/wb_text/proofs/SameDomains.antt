-- Two well-formed workbooks with the same lines have the same domains.
use Rattle.std.proofs.Common.{◌≡◌, ℕ, ℤ, List, [], Option, Some, None, unwrap_or, length, refl, sym, ap, ◌∙◌, subst}
use Rattle.std.specs.FinMap.{get}
use Rattle.wb_dist.specs.Maps.{LayoutMap}
use Rattle.wb_cells.specs.declared.cells.cell.Cell.TheVariants.{Object, Shape}
use Rattle.wb_cells.specs.declared.cells.kind.DomainKind.{DomainKind}
use Rattle.wb_cells.specs.declared.cells.kind.DomainKind.TheVariants.{Rectangular, Sparse, Associative}
use Rattle.wb_cells.specs.declared.cells.kind.KeyType.{KeyType}
use Rattle.wb_cells.specs.declared.cells.value.Value.{Value}
use Rattle.wb_cells.specs.declared.cells.value.Value.TheVariants as values
use Rattle.wb_cells.specs.declared.values.index.Index.{Index}
use Rattle.wb_cells.specs.Cells.{Name, Cells}
use Rattle.wb_cells.specs.WellFormed.{IsWellFormed, IsShape, domain_at, domain_in, ranges_in}
use Rattle.wb_text.specs.Said.{Line, rectangular, sparse, associative, array, domain_said, said_in, said_of, said}
use Rattle.wb_text.proofs.ReadIndices.{some_same}
use Rattle.wb_text.proofs.LineOfName.{same_line}

pub none_some : {X Y : Type 0} (x : X) → None ≡ Some x → Y
none_some x e = cc

-- ---- lines that are alike say the same

ranges_same : (d e : Name) (rs us : List (List ℤ)) (m n : LayoutMap) → rectangular d rs m ≡ rectangular e us n → rs ≡ us
ranges_same d e rs us m n f = cc

parent_same : (d e p o : Name) (is js : List Index) → sparse d p is ≡ sparse e o js → p ≡ o
parent_same d e p o is js f = cc

type_same : (d e : Name) (t u : KeyType) (is js : List Index) → associative d t is ≡ associative e u js → t ≡ u
type_same d e t u is js f = cc

-- ---- objects

pub domain_object : (o : Option Value) (kind : DomainKind) → domain_in o ≡ Some kind → o ≡ Some (values.Domain kind)
domain_object None kind e = none_some kind e
domain_object (Some (values.Domain k)) kind e = ap (λ x. Some (values.Domain x)) (some_same k kind e)
domain_object (Some v) kind e = none_some kind e

pub domain_line : (s : Cells) (d : Name) (kind : DomainKind) → domain_at s d ≡ Some kind → said_of s d ≡ Some (domain_said s d kind)
domain_line s d kind e = ap (said_in s d) (domain_object (get s (Object d)) kind e)

-- two domains of one name are said alike
pub both_said : (s t : Cells) → said s ≡ said t → (d : Name) (k l : DomainKind) → domain_at s d ≡ Some k → domain_at t d ≡ Some l →
    domain_said s d k ≡ domain_said t d l
both_said s t same d k l e f = some_same _ _ (sym (domain_line s d k e) ∙ same_line s t same d ∙ domain_line t d l f)

-- ---- ranks

pub rank_known : (s : Cells) (d : Name) (rank : ℕ) → IsWellFormed s → domain_at s d ≡ Some (Rectangular rank) →
    length (unwrap_or (ranges_in (get s (Shape d))) []) ≡ rank
rank_known s d rank w is =
    let shape : IsShape (Some (Rectangular rank)) (get s (Shape d)) = subst (λ k. IsShape k (get s (Shape d))) is (w.shapes d) in
    ap (λ v. length (unwrap_or (ranges_in v) [])) shape.1 ∙ shape.2.dimensions

rank_same : (s t : Cells) → IsWellFormed s → IsWellFormed t → said s ≡ said t → (d : Name) (j k : ℕ) → domain_at s d ≡ Some (Rectangular j) →
    domain_at t d ≡ Some (Rectangular k) → j ≡ k
rank_same s t v w same d j k e f =
    sym (rank_known s d j v e)
    ∙ ap (λ rs. length rs) (ranges_same d d _ _ _ _ (both_said s t same d (Rectangular j) (Rectangular k) e f))
    ∙ rank_known t d k w f

-- ---- kinds

kind_same : (s t : Cells) → IsWellFormed s → IsWellFormed t → said s ≡ said t → (d : Name) (k l : DomainKind) → domain_at s d ≡ Some k →
    domain_at t d ≡ Some l → domain_said s d k ≡ domain_said t d l → k ≡ l
kind_same s t v w same d (Rectangular j) (Rectangular k) e f g = ap Rectangular (rank_same s t v w same d j k e f)
kind_same s t v w same d (Rectangular j) (Sparse p k) e f g = cc
kind_same s t v w same d (Rectangular j) (Associative u) e f g = cc
kind_same s t v w same d (Sparse p j) (Rectangular k) e f g = cc
kind_same s t v w same d (Sparse p j) (Sparse o k) e f g =
    let parent : p ≡ o = parent_same d d p o _ _ g in
    let here = v.objects d _ (domain_object (get s (Object d)) (Sparse p j) e) in
    let there = w.objects d _ (domain_object (get t (Object d)) (Sparse o k) f) in
    let rank : j ≡ k = rank_same s t v w same p j k here (subst (λ n. domain_at t n ≡ Some (Rectangular k)) (sym parent) there) in
    cc (parent, rank)
kind_same s t v w same d (Sparse p j) (Associative u) e f g = cc
kind_same s t v w same d (Associative t1) (Rectangular k) e f g = cc
kind_same s t v w same d (Associative t1) (Sparse o k) e f g = cc
kind_same s t v w same d (Associative t1) (Associative u) e f g = ap Associative (type_same d d t1 u _ _ g)

-- ---- a domain is there in both, or in neither

not_domain : (s : Cells) (d : Name) (o : Option Value) (line : Line) → said_in s d o ≡ Some line → domain_in o ≡ None → (a e : Name) × (xs : List ℤ) ×
    (irv : Option ℤ) × (line ≡ array a e xs irv)
not_domain s d None line e f = none_some line e
not_domain s d (Some (values.Domain k)) line e f = none_some k (sym f)
not_domain s d (Some (values.Array over kind)) line e f = (d, over, _, _, sym (some_same _ _ e))
not_domain s d (Some v) line e f = none_some line e

no_array : {X : Type 0} (s : Cells) (d : Name) (k : DomainKind) (a e : Name) (xs : List ℤ) (irv : Option ℤ) → domain_said s d k ≡ array a e xs irv → X
no_array s d (Rectangular rank) a e xs irv f = cc
no_array s d (Sparse parent rank) a e xs irv f = cc
no_array s d (Associative type) a e xs irv f = cc

one_sided : {X : Type 0} (s t : Cells) (d : Name) (k : DomainKind) → said_of s d ≡ said_of t d → domain_at s d ≡ Some k → domain_at t d ≡ None → X
one_sided s t d k same e f =
    let other = not_domain t d (get t (Object d)) (domain_said s d k) (sym same ∙ domain_line s d k e) f in
    no_array s d k other.0 other.1 other.2 other.3 other.4

pub domains_same : (s t : Cells) → IsWellFormed s → IsWellFormed t → said s ≡ said t → (d : Name) → domain_at s d ≡ domain_at t d
domains_same s t v w same d = of (domain_at s d) (domain_at t d) refl refl
  where
    of : (o p : Option DomainKind) → domain_at s d ≡ o → domain_at t d ≡ p → o ≡ p
    of None None e f = refl
    of None (Some l) e f = one_sided t s d l (sym (same_line s t same d)) f e
    of (Some k) None e f = one_sided s t d k (same_line s t same d) e f
    of (Some k) (Some l) e f = ap (λ x. Some x) (kind_same s t v w same d k l e f (both_said s t same d k l e f))

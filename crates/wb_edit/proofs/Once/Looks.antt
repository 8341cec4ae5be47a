-- Commands whose writes name each cell once, look by look.
use Rattle.std.proofs.Common.{◌≡◌, ℕ, zero, suc, ℤ, List, [], map, Option, Some, None, Result, Ok, Err, slice_get, refl, sym, ap, subst, ◌∙◌}
use Rattle.std.specs.FinMap.{get}
use Rattle.std.specs.List.{zip}
use Rattle.std.specs.Map.{keys_of}
use Rattle.std.proofs.lemmas.Simd.{map-map}
use Rattle.selective_undo.specs.Changes.{AllOnce}
use Rattle.selective_undo.specs.Edit.{outcome, written}
use Rattle.wb_range.specs.Domain.{IsListedOnce}
use Rattle.wb_rect.specs.Product.{product}
use Rattle.wb_cells.proofs.Points.{once_points}
use Rattle.wb_cells.specs.declared.cells.cell.Cell.{Cell}
use Rattle.wb_cells.specs.declared.cells.cell.Cell.TheVariants.{Shape, In, Implicit}
use Rattle.wb_cells.specs.declared.cells.kind.DomainKind.{DomainKind}
use Rattle.wb_cells.specs.declared.cells.kind.DomainKind.TheVariants.{Rectangular, Sparse, Associative}
use Rattle.wb_cells.specs.declared.cells.value.Value.{Value}
use Rattle.wb_cells.specs.declared.values.index.Index.{Index}
use Rattle.wb_cells.specs.Cells.{Name, Cells, cell_cmp}
use Rattle.wb_cells.specs.Shapes.{Range, indices}
use Rattle.wb_cells.specs.WellFormed.{IsWellFormed, IsRectangle, IsShape, domain_at, ranges_in}
use Rattle.wb_reshape.proofs.Fills.{arrays, zeros_once, held_once}
use Rattle.wb_cells.specs.declared.refusal.WhyRefused.{WhyRefused}
use Rattle.wb_edit.specs.Trees.{Tree, judged, read}
use Rattle.wb_edit.specs.Rectangles.{read_all}
use Rattle.wb_edit.specs.Reshaping.{shape_in, shape}
use Rattle.wb_edit.specs.Resizing.{all_inside, all_in_parent, number_or_zero, defaults}
use Rattle.wb_edit.specs.Looks.{indices_of, domain_indices}
use Rattle.wb_edit.proofs.Members.{members_once}
use Rattle.wb_edit.proofs.Rectangles.{gives_all}
use Rattle.wb_edit.proofs.Trees.{seen_value}

-- what the tree writes names each cell once
abbrev pub Once : Tree → Cells → Type 0
Once t s = AllOnce cell_cmp (written (outcome t s))

-- a look at one cell goes on with what the cell holds
pub once_read : (s : Cells) (c : Cell) (next : Option Value → Tree) → Once (next (get s c)) s → Once (read c next) s
once_read s c next once = subst (λ v. Once (next v) s) (sym (seen_value s c)) once

-- a judgement goes on with what it gives; where it refuses, nothing is written
pub once_judged : {X : Type 0} (s : Cells) (j : Result X WhyRefused) (next : X → Tree) → ((x : X) → j ≡ Ok x → Once (next x) s) → Once (judged j next) s
once_judged s (Ok x) next once = once x refl
once_judged s (Err why) next once = tt

-- a look at one cell whose value is judged
pub once_test : {X : Type 0} (s : Cells) (c : Cell) (test : Option Value → Result X WhyRefused) (next : X → Tree) →
    ((x : X) → test (get s c) ≡ Ok x → Once (next x) s) → Once (read c (λ v. judged (test v) next)) s
once_test s c test next once = once_read s c (λ v. judged (test v) next) (once_judged s (test (get s c)) next once)

-- a look at many cells goes on with what each holds
pub once_all : (s : Cells) (cs : List Cell) (next : List (Option Value) → Tree) → Once (next (map (get s) cs)) s → Once (read_all cs next) s
once_all s cs next once = subst (λ o. AllOnce cell_cmp (written o)) (sym ((gives_all s cs [] next).0)) once

-- ---- the indices of a domain

pub rectangle_once : (rank : ℕ) (rs : List Range) → IsRectangle rank rs → IsListedOnce (indices rs)
rectangle_once rank rs whole = once_points (product rs) whole.once

pub none_apart : {X : Type 0} (p : ℕ) (x : X) → slice_get [] p ≡ Some x → ⊥
none_apart zero x e = cc
none_apart (suc p) x e = cc

pub none_once : {X : Type 0} → IsListedOnce {X = X} []
none_once p q x e f = absurd (none_apart p x e)

shape_once : (o : Option DomainKind) (v : Option Value) → IsShape o v → IsListedOnce (indices_of (ranges_in v))
shape_once (Some (Rectangular rank)) v whole = subst (λ o. IsListedOnce (indices_of (ranges_in o))) (sym whole.1) (rectangle_once rank whole.0 whole.2)
shape_once (Some (Sparse parent rank)) v none = subst (λ o. IsListedOnce (indices_of (ranges_in o))) (sym none) none_once
shape_once (Some (Associative type)) v none = subst (λ o. IsListedOnce (indices_of (ranges_in o))) (sym none) none_once
shape_once None v none = subst (λ o. IsListedOnce (indices_of (ranges_in o))) (sym none) none_once

shape_whole : (o : Option DomainKind) (v : Option Value) (rs : List Range) → IsShape o v → shape_in v ≡ Ok rs → (rank : ℕ) × IsRectangle rank rs
shape_whole (Some (Rectangular rank)) v rs whole found =
    let given : ◌≡◌ {A = Result (List Range) WhyRefused} (Ok whole.0) (Ok rs) = ap shape_in (sym whole.1) ∙ found in
    let same : whole.0 ≡ rs = cc in
    (rank, subst (λ (ts : List Range). IsRectangle rank ts) same whole.2)
shape_whole (Some (Sparse parent rank)) v rs none found = let no : shape_in None ≡ Ok rs = ap shape_in (sym none) ∙ found in cc
shape_whole (Some (Associative type)) v rs none found = let no : shape_in None ≡ Ok rs = ap shape_in (sym none) ∙ found in cc
shape_whole None v rs none found = let no : shape_in None ≡ Ok rs = ap shape_in (sym none) ∙ found in cc

module _ (s : Cells) (h : IsWellFormed s) where
  pub once_indices : (d : Name) (kind : DomainKind) (next : List Index → Tree) → ((is : List Index) → IsListedOnce is → Once (next is) s) →
      Once (domain_indices d kind next) s
  once_indices d (Rectangular rank) next once = once_read s (Shape d) (λ v. next (indices_of (ranges_in v)))
      (once _ (shape_once (domain_at s d) (get s (Shape d)) (h.shapes d)))
  once_indices d (Sparse parent rank) next once = once _ (members_once s d)
  once_indices d (Associative type) next once = once _ (members_once s d)

  pub once_shape : (d : Name) (next : List Range → Tree) → ((rank : ℕ) (rs : List Range) → IsRectangle rank rs → Once (next rs) s) → Once (shape d next) s
  once_shape d next once =
      once_test s (Shape d) shape_in next (λ rs found.
      let whole = shape_whole (domain_at s d) (get s (Shape d)) rs (h.shapes d) found in
      once whole.0 rs whole.1)

-- ---- what new indices bring

pub once_inside : (s : Cells) (kind : DomainKind) (is : List Index) (next : Unit {0} → Tree) → Once (next tt) s → Once (all_in_parent kind is next) s
once_inside s (Rectangular rank) is next once = once
once_inside s (Associative type) is next once = once
once_inside s (Sparse parent rank) is next once = once_all s (map (In parent) is) (λ vs. judged (all_inside vs) next)
    (once_judged s (all_inside (map (get s) (map (In parent) is))) next (λ x ok. once))

pub once_defaults : (s : Cells) (d : Name) (kind : DomainKind) (next : List (Name × ℤ) → Tree) →
    ((fs : List (Name × ℤ)) → IsListedOnce (keys_of fs) → Once (next fs) s) → Once (defaults kind (arrays s d) next) s
once_defaults s d (Rectangular rank) next once = once _ (zeros_once s d)
once_defaults s d (Associative type) next once = once _ (zeros_once s d)
once_defaults s d (Sparse parent rank) next once =
    once_all s (map Implicit (arrays s d)) (λ vs. next (zip (arrays s d) (map number_or_zero vs))) (
    subst (λ vs. Once (next (zip (arrays s d) (map number_or_zero vs))) s) (sym (map-map (get s) Implicit (arrays s d)))
    (once _ (held_once s d (λ a. get s (Implicit a)))))

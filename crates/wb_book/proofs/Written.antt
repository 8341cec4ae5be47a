-- An array of those that are kept was written.
use Rattle.std.proofs.Common.{◌≡◌, ℤ, Bool, true, false, cond, ◌&&◌, List, Option, Some, None, is_some, IsSome, refl, sym, ap, subst, ◌∙◌}
use Rattle.std.specs.BTreeMap.{is_at}
use Rattle.std.specs.Cmp.{eq_by_cmp_equiv, Equal-is}
use Rattle.std.specs.Cmp.Lexicographic.{slice_cmp, nat_list_cmp_total}
use Rattle.std.specs.Map.{lookup, set_value}
use Rattle.std.specs.Option.{option_and_then}
use Rattle.std.specs.Ordering.{nat_cmp, eq_by_cmp}
use Rattle.std.proofs.lemmas.Map.{lookup-set_value}
use Rattle.wb_cells.specs.declared.values.index.Index.{Index}
use Rattle.wb_cells.specs.contracts.values.index.IndexOrd.TheImpl.Laws as index_laws
use Rattle.wb_cells.specs.declared.cells.cell.Cell.{Cell}
use Rattle.wb_cells.specs.Cells.{Name, cell_cmp, cell_cmp-IsAntisymmetric, index_cmp, index_cmp-IsAntisymmetric, is_same_name, is_same_index, same_names}
use Rattle.wb_book.specs.Joined.{element_in}
use Rattle.wb_book.specs.Kept.{Pieced, array_in, with_element}

pub one_name : (a b : Name) → is_same_name a b ≡ true → a ≡ b
one_name a b e = same_names a b ((Equal-is _).0 e)

pub one_index : (i j : Index) → is_same_index i j ≡ true → i ≡ j
one_index i j e = index_cmp-IsAntisymmetric i j ((Equal-is _).0 e)

pub one_cell : (x y : Cell) → eq_by_cmp cell_cmp x y ≡ true → x ≡ y
one_cell x y e = cell_cmp-IsAntisymmetric x y ((Equal-is _).0 e)

is_there : {X : Type 0} (o : Option X) (p : X) → o ≡ Some p → IsSome o
is_there o p e = ap is_some e

pub array_in-written : (es : List (Name × Pieced)) (a b : Name) (w p : Pieced) (i : Index) (v : ℤ) → array_in es a ≡ Some p →
    w ≡ (set_value (is_at (index_cmp i)) p.0 v, p.1) →
    array_in (set_value (is_at (slice_cmp nat_cmp a)) es w) b ≡ cond (is_same_name a b) (with_element (array_in es b) i v) (array_in es b)
array_in-written es a b w p i v found is =
    lookup-set_value (eq_by_cmp_equiv nat_list_cmp_total) (is_same_name a) (λ x y e. ap (λ (n : Name). is_same_name n y) (one_name a x e)) b w es
    (is_there _ p found)
    ∙ by (is_same_name a b) refl
  where
    by : (t : Bool) → is_same_name a b ≡ t → cond t (Some w) (array_in es b) ≡ cond t (with_element (array_in es b) i v) (array_in es b)
    by false e = refl
    by true e = ap (λ z. Some z) is ∙ sym (ap (λ o. with_element o i v) (ap (array_in es) (sym (one_name a b e)) ∙ found))

-- none was written
pub array_in-none : (es : List (Name × Pieced)) (a b : Name) (i : Index) (v : ℤ) → array_in es a ≡ None →
    array_in es b ≡ cond (is_same_name a b) (with_element (array_in es b) i v) (array_in es b)
array_in-none es a b i v none = by (is_same_name a b) refl
  where
    by : (t : Bool) → is_same_name a b ≡ t → array_in es b ≡ cond t (with_element (array_in es b) i v) (array_in es b)
    by false e = refl
    by true e = let gone : array_in es b ≡ None = ap (array_in es) (sym (one_name a b e)) ∙ none in rw gone refl

-- ---- what that says of an element

some-set_value : (o : Option Pieced) (i j : Index) (v : ℤ) → IsSome (option_and_then (λ x. lookup (is_at (index_cmp i)) x.0) o) →
    option_and_then (λ x. lookup (is_at (index_cmp j)) x.0) (with_element o i v) ≡ cond (is_same_index i j) (Some v)
    (option_and_then (λ x. lookup (is_at (index_cmp j)) x.0) o)
some-set_value None i j v there = cc
some-set_value (Some x) i j v there = lookup-set_value (eq_by_cmp_equiv index_laws.total-law) (is_same_index i)
    (λ k l e. ap (λ (n : Index). is_same_index n l) (one_index i k e)) j v x.0 there

pub element_in-written : (es fs : List (Name × Pieced)) (a b : Name) (i j : Index) (v : ℤ) → IsSome (element_in es a i) →
    array_in fs b ≡ cond (is_same_name a b) (with_element (array_in es b) i v) (array_in es b) →
    element_in fs b j ≡ cond (is_same_name a b && is_same_index i j) (Some v) (element_in es b j)
element_in-written es fs a b i j v there is = ap (option_and_then (λ x. lookup (is_at (index_cmp j)) x.0)) is ∙ by (is_same_name a b) refl
  where
    by : (t : Bool) → is_same_name a b ≡ t →
        option_and_then (λ x. lookup (is_at (index_cmp j)) x.0) (cond t (with_element (array_in es b) i v) (array_in es b)) ≡ cond (t && is_same_index i j)
        (Some v) (element_in es b j)
    by false e = refl
    by true e = some-set_value (array_in es b) i j v (subst (λ (n : Name). IsSome (element_in es n i)) (one_name a b e) there)

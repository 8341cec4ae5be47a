-- Arrays that were put or dropped by the changes of their objects.
use Rattle.std.proofs.Common.{◌≡◌, ℕ, ◌+◌, ◌<◌, suc, add-one, Bool, true, false, not, cond, ◌||◌, ◌&&◌, List, ◌∷◌, length, drop, drop-cons, get_or, Option}
use Rattle.std.proofs.Common.{Some, None, is_some, refl, sym, ap, ◌∙◌}
use Rattle.std.specs.BTreeMap.{is_at}
use Rattle.std.specs.Cmp.{eq_by_cmp_equiv}
use Rattle.std.specs.Cmp.Lexicographic.{nat_list_cmp_total}
use Rattle.std.specs.Map.{lookup}
use Rattle.std.specs.Option.{option_and_then}
use Rattle.std.specs.Ordering.{eq_by_cmp}
use Rattle.selective_undo.specs.declared.Change.{Change}
use Rattle.selective_undo.specs.Changes.{changes}
use Rattle.wb_cells.specs.declared.cells.cell.Cell.{Cell}
use Rattle.wb_cells.specs.declared.cells.cell.Cell.TheVariants.{Object}
use Rattle.wb_cells.specs.declared.cells.value.Value.{Value}
use Rattle.wb_cells.specs.declared.values.index.Index.{Index}
use Rattle.wb_cells.specs.Cells.{Name, Changes, cell_cmp, index_cmp, is_same_name}
use Rattle.wb_book.specs.Joined.{element_in}
use Rattle.wb_book.specs.After.{is_array}
use Rattle.wb_book.specs.Kept.{Pieced, array_in}
use Rattle.wb_book.proofs.Written.{one_name, one_cell as equal_cells}

-- ---- the object of a change

pub at_object : (c : Cell) (n b : Name) → c ≡ Object n → eq_by_cmp cell_cmp (Object b) c ≡ is_same_name n b
at_object c n b is = ap (eq_by_cmp cell_cmp (Object b)) is ∙ (eq_by_cmp_equiv nat_list_cmp_total).symm b n

pub none_there : (o : Option Pieced) → is_some o ≡ false → o ≡ None
none_there None e = refl
none_there (Some p) e = cc

pub kept_one : (stored : Cell → Option Value) (c : Cell) (n b : Name) (o : Option Pieced) → c ≡ Object n → is_array (stored (Object n)) ≡ true →
    o ≡ cond (eq_by_cmp cell_cmp (Object b) c && not (is_array (stored (Object b)))) None o
kept_one stored c n b o is there = by (eq_by_cmp cell_cmp (Object b) c) refl
  where
    by : (t : Bool) → eq_by_cmp cell_cmp (Object b) c ≡ t → o ≡ cond (t && not (is_array (stored (Object b)))) None o
    by false e = refl
    by true e = let same : Object b ≡ Object n = equal_cells (Object b) c e ∙ is in rw (ap (λ (k : Cell). is_array (stored k)) same ∙ there) refl

pub dropped_one : (stored : Cell → Option Value) (c : Cell) (n b : Name) (o q : Option Pieced) → c ≡ Object n → is_array (stored (Object n)) ≡ false →
    q ≡ cond (is_same_name n b) None o → q ≡ cond (eq_by_cmp cell_cmp (Object b) c && not (is_array (stored (Object b)))) None o
dropped_one stored c n b o q is gone made = made ∙ by (is_same_name n b) refl
  where
    by : (t : Bool) → is_same_name n b ≡ t → cond t None o ≡ cond (eq_by_cmp cell_cmp (Object b) c && not (is_array (stored (Object b)))) None o
    by false e = rw (at_object c n b is ∙ e) refl
    by true e = rw (at_object c n b is ∙ e, ap (λ (m : Name). is_array (stored (Object m))) (sym (one_name n b e)) ∙ gone) refl

-- ---- one dropped after another

dropped : (t u a : Bool) (o q r : Option Pieced) → q ≡ cond (t && a) None o → cond ((t || u) && a) None o ≡ r → cond (u && a) None q ≡ r
dropped true true true o q r is h = h
dropped true true false o q r is h = is ∙ h
dropped true false true o q r is h = is ∙ h
dropped true false false o q r is h = is ∙ h
dropped false true true o q r is h = h
dropped false true false o q r is h = is ∙ h
dropped false false true o q r is h = is ∙ h
dropped false false false o q r is h = is ∙ h

pub dropped_more : (xs : Changes) (k : ℕ) (x : Change Cell Value) (b : Name) (a : Bool) (o q r : Option Pieced) → k < length xs → x ≡ get_or xs k x →
    q ≡ cond (eq_by_cmp cell_cmp (Object b) x.cell && a) None o → cond (changes cell_cmp (drop k xs) (Object b) && a) None o ≡ r →
    cond (changes cell_cmp (drop (k + 1) xs) (Object b) && a) None q ≡ r
dropped_more xs k x b a o q r low is made h =
    let rest : drop k xs ≡ x ∷ drop (suc k) xs = drop-cons xs k x low ∙ ap (λ (y : Change Cell Value). y ∷ drop (suc k) xs) (sym is) in
    rw (add-one) (dropped (eq_by_cmp cell_cmp (Object b) x.cell) (changes cell_cmp (drop (suc k) xs) (Object b)) a o q r made
    (ap (λ (ys : Changes). cond (changes cell_cmp ys (Object b) && a) None o) (sym rest) ∙ h))

-- ---- an array without elements was put where there was none

module _ (es fs : List (Name × Pieced)) (n : Name) (p : Pieced) (absent : array_in es n ≡ None)
    (put : (b : Name) → array_in fs b ≡ cond (is_same_name n b) (Some p) (array_in es b)) where
  none_of : (b : Name) → is_same_name n b ≡ true → array_in es b ≡ None
  none_of b e = ap (array_in es) (sym (one_name n b e)) ∙ absent

  pub put_stays : (b : Name) (q : Pieced) → array_in es b ≡ Some q → array_in fs b ≡ Some q
  put_stays b q found = put b ∙ by (is_same_name n b) refl
    where
      by : (t : Bool) → is_same_name n b ≡ t → cond t (Some p) (array_in es b) ≡ Some q
      by false e = found
      by true e = let never : None ≡ Some q = sym (none_of b e) ∙ found in cc

  pub put_elements : ((i : Index) → lookup (is_at (index_cmp i)) p.0 ≡ None) → (b : Name) (i : Index) → element_in fs b i ≡ element_in es b i
  put_elements empty b i = ap (option_and_then (λ x. lookup (is_at (index_cmp i)) x.0)) (put b) ∙ by (is_same_name n b) refl
    where
      by : (t : Bool) → is_same_name n b ≡ t → option_and_then (λ x. lookup (is_at (index_cmp i)) x.0) (cond t (Some p) (array_in es b)) ≡ element_in es b i
      by false e = refl
      by true e = empty i ∙ sym (ap (option_and_then (λ x. lookup (is_at (index_cmp i)) x.0)) (none_of b e))

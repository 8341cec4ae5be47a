-- Moved arrays are put in one after another.
use Rattle.std.proofs.Common.{◌≡◌, Bool, true, false, cond, List, [], ◌∷◌, Option, Some, None, is_some, IsSome, refl, sym, ap, ◌∙◌}
use Rattle.std.specs.declared.cmp.Ordering.TheVariants.{Less}
use Rattle.std.specs.BTreeMap.{is_at}
use Rattle.std.specs.Cmp.{eq_by_cmp_equiv}
use Rattle.std.specs.Cmp.Lexicographic.{slice_cmp, nat_list_cmp_total}
use Rattle.std.specs.List.{AllByRecursion}
use Rattle.std.specs.List.Sorted.{IsStrictlySortedBy}
use Rattle.std.specs.Map.{lookup, set_value, keys_of}
use Rattle.std.specs.Ordering.{nat_cmp}
use Rattle.std.proofs.lemmas.Map.{lookup-set_value}
use Rattle.wb_cells.specs.Cells.{Name, is_same_name}
use Rattle.wb_book.specs.Kept.{Pieced, array_in}
use Rattle.wb_book.specs.Moved.{put_over, only}
use Rattle.wb_book.proofs.Written.{one_name}

pub none_above : {X : Type 0} (n : Name) (es : List (Name × X)) → AllByRecursion (λ y. slice_cmp nat_cmp n y ≡ Less) (keys_of es) →
    lookup (is_at (slice_cmp nat_cmp n)) es ≡ None
none_above n [] all = refl
none_above n (e ∷ es) all = rw all.0 (none_above n es all.1)

pub sorted_rest : (n : Name) (p : Pieced) (es : List (Name × Pieced)) → IsStrictlySortedBy (slice_cmp nat_cmp) (keys_of ((n, p) ∷ es)) →
    IsStrictlySortedBy (slice_cmp nat_cmp) (keys_of es)
unfolding IsStrictlySortedBy
sorted_rest n p es s = s.1

pub later_none : (n b : Name) (p : Pieced) (es : List (Name × Pieced)) → IsStrictlySortedBy (slice_cmp nat_cmp) (keys_of ((n, p) ∷ es)) →
    is_same_name n b ≡ true → array_in es b ≡ None
unfolding IsStrictlySortedBy
later_none n b p es s same = ap (array_in es) (sym (one_name n b same)) ∙ none_above n es s.0

-- one more is put in
pub over_more : (x y : Option Pieced) (n b : Name) (p : Pieced) (es : List (Name × Pieced)) →
    IsStrictlySortedBy (slice_cmp nat_cmp) (keys_of ((n, p) ∷ es)) → y ≡ put_over x (only n p b) →
    put_over y (array_in es b) ≡ put_over x (array_in ((n, p) ∷ es) b)
over_more x y n b p es s is =
    ap (λ (o : Option Pieced). put_over o (array_in es b)) is
    ∙ by x (is_same_name n b) refl
    ∙ ap (λ (t : Bool). put_over x (cond t (Some p) (array_in es b))) ((eq_by_cmp_equiv nat_list_cmp_total).symm n b)
  where
    by : (x : Option Pieced) (t : Bool) → is_same_name n b ≡ t →
        put_over (put_over x (cond t (Some p) None)) (array_in es b) ≡ put_over x (cond t (Some p) (array_in es b))
    by None t e = refl
    by (Some q) false e = refl
    by (Some q) true e = rw (later_none n b p es s e) refl

pub over_none : (x : Option Pieced) → put_over x None ≡ x
over_none None = refl
over_none (Some p) = refl

is_there : {X : Type 0} (o : Option X) (p : X) → o ≡ Some p → IsSome o
is_there o p e = ap is_some e

pub replaced : (es : List (Name × Pieced)) (a b : Name) (w p : Pieced) → array_in es a ≡ Some p →
    array_in (set_value (is_at (slice_cmp nat_cmp a)) es w) b ≡ put_over (array_in es b) (only a w b)
replaced es a b w p found =
    lookup-set_value (eq_by_cmp_equiv nat_list_cmp_total) (is_same_name a) (λ x y e. ap (λ (n : Name). is_same_name n y) (one_name a x e)) b w es
    (is_there _ p found)
    ∙ by (is_same_name a b) refl
  where
    by : (t : Bool) → is_same_name a b ≡ t → cond t (Some w) (array_in es b) ≡ put_over (array_in es b) (cond t (Some w) None)
    by false e = sym (over_none (array_in es b))
    by true e = let there : array_in es b ≡ Some p = ap (array_in es) (sym (one_name a b e)) ∙ found in rw there refl

pub not_replaced : (es : List (Name × Pieced)) (a b : Name) (w : Pieced) → array_in es a ≡ None → array_in es b ≡ put_over (array_in es b) (only a w b)
not_replaced es a b w none = by (is_same_name a b) refl
  where
    by : (t : Bool) → is_same_name a b ≡ t → array_in es b ≡ put_over (array_in es b) (cond t (Some w) None)
    by false e = sym (over_none (array_in es b))
    by true e = let gone : array_in es b ≡ None = ap (array_in es) (sym (one_name a b e)) ∙ none in rw gone refl

-- The elements of a column stand at indices of the rank that it lies by.
use Rattle.std.proofs.Common.{◌≡◌, ℕ, zero, suc, ◌≤◌, ℤ, Bool, true, false, ◌||◌, cond, List, [], ◌∷◌, length, Option, Some, None, is_some, IsSome, refl, sym, ap, ◌∙◌}
use Rattle.std.proofs.Common.{arith}
use Rattle.std.specs.List.{AllByRecursion, list_all, zip}
use Rattle.wb_dist.specs.Maps.{LayoutMap}
use Rattle.wb_cells.specs.declared.cells.kind.KeyType.TheVariants.{Int, Text}
use Rattle.wb_cells.specs.declared.cells.kind.Kind.TheVariants.{Associative}
use Rattle.wb_cells.specs.declared.values.index.Index.{Index}
use Rattle.wb_cells.specs.Cells.{Name, index_cmp, is_same_index}
use Rattle.wb_cells.specs.Kinds.{is_key}
use Rattle.wb_cells.specs.Layouts.{is_of_rank}
use Rattle.wb_cells.specs.Shapes.{indices}
use Rattle.wb_cells.specs.WellFormed.{has}
use Rattle.wb_book.specs.Piecewise.Changed.{changed_at, all_set}
use Rattle.wb_book.specs.Piecewise.Seen.{is_of_form, MayLie}
use Rattle.wb_book.proofs.Formed.{form_of_point, point_within}
use Rattle.wb_text.specs.Said.{Line, rectangular, sparse, associative, array, first_line_of}
use Rattle.wb_text.specs.FromLines.Inserted.{or_else, last_of}
use Rattle.wb_reading.specs.Laid.{rectangle_lies, lies_told}
use Rattle.wb_text.specs.FromLines.Made.{IsMade}
use Rattle.wb_text.specs.FromLines.Told.{ranges_told, indices_told, are_within, is_sound}
use Rattle.wb_reading.proofs.Columnwise.{column_set}
use Rattle.wb_text.proofs.FromLines.WellMade.{Of, IsFit, fit_in, listed_passes}

-- ---- how a column lies

of_rank_may : (r : ℕ) (m : LayoutMap) → 1 ≤ r → r ≤ 3 → is_of_rank r m ≡ true → MayLie m r
of_rank_may zero m some few right = absurd (omega (arith, some))
of_rank_may (suc n) m some few right = (few, right)

rectangle_may : (ls : List Line) (n : Name) (o : Option Line) → Of (IsFit ls n) o → MayLie (rectangle_lies o).0 (rectangle_lies o).1
rectangle_may ls n None h = (omega arith, refl)
rectangle_may ls n (Some (rectangular d rs m)) h = of_rank_may (length rs) m h.made.1.at_least_one h.made.1.at_most_three h.sound
rectangle_may ls n (Some (sparse d parent is)) h = (omega arith, refl)
rectangle_may ls n (Some (associative d type is)) h = (omega arith, refl)
rectangle_may ls n (Some (array a d xs irv)) h = (omega arith, refl)

lies_may : (ls : List Line) (n : Name) (o : Option Line) → Of (IsFit ls n) o → ((p : Name) → Of (IsFit ls p) (first_line_of p ls)) →
    MayLie (lies_told ls o).0 (lies_told ls o).1
lies_may ls n None h all = (omega arith, refl)
lies_may ls n (Some (rectangular d rs m)) h all = of_rank_may (length rs) m h.made.1.at_least_one h.made.1.at_most_three h.sound
lies_may ls n (Some (sparse d parent is)) h all = rectangle_may ls parent (first_line_of parent ls) (all parent)
lies_may ls n (Some (associative d Int is)) h all = (omega arith, refl)
lies_may ls n (Some (associative d Text is)) h all = refl
lies_may ls n (Some (array a d xs irv)) h all = (omega arith, refl)

-- ---- the indices of a domain

parent_form : (ls : List Line) (n : Name) (is : List Index) (i : Index) (o : Option Line) → Of (IsFit ls n) o → are_within (ranges_told o) is ≡ true →
    has is i ≡ true → is_of_form (rectangle_lies o).1 i ≡ true
parent_form ls n is i None h within there = cc
parent_form ls n is i (Some (rectangular d rs m)) h within there =
    form_of_point (length rs) i h.made.1.at_least_one (point_within (length rs) rs i refl (listed_passes (has (indices rs)) is i within there))
parent_form ls n is i (Some (sparse d parent js)) h within there = cc
parent_form ls n is i (Some (associative d type js)) h within there = cc
parent_form ls n is i (Some (array a d xs irv)) h within there = cc

index_form : (ls : List Line) (n : Name) (o : Option Line) (i : Index) → Of (IsFit ls n) o → ((p : Name) → Of (IsFit ls p) (first_line_of p ls)) →
    has (indices_told o) i ≡ true → is_of_form (lies_told ls o).1 i ≡ true
index_form ls n None i h all there = cc
index_form ls n (Some (rectangular d rs m)) i h all there =
    form_of_point (length rs) i h.made.1.at_least_one (point_within (length rs) rs i refl there)
index_form ls n (Some (sparse d parent is)) i h all there = parent_form ls parent is i (first_line_of parent ls) (all parent) h.sound there
index_form ls n (Some (associative d Int is)) i h all there = listed_passes (is_key (Associative Int)) is i h.sound there
index_form ls n (Some (associative d Text is)) i h all there = listed_passes (is_key (Associative Text)) is i h.sound there
index_form ls n (Some (array a d xs irv)) i h all there = cc

one_more : (b h : Bool) (r : Option ℤ) (x : ℤ) → (IsSome r → h ≡ true) → IsSome (or_else r (cond b (Some x) None)) → b || h ≡ true
one_more true h r x rest there = refl
one_more false h r x rest there = rest there

has_index : (is : List Index) (xs : List ℤ) (i : Index) → IsSome (last_of index_cmp (zip is xs) i) → has is i ≡ true
has_index [] xs i there = cc
has_index (j ∷ is) [] i there = cc
has_index (j ∷ is) (x ∷ xs) i there = one_more (is_same_index i j) (has is i) (last_of index_cmp (zip is xs) i) x (has_index is xs i) there

-- ---- the column over the domain of a name

module _ (ls : List Line) (sound : list_all (is_sound ls) ls ≡ true) (made : AllByRecursion IsMade ls) (d : Name) where
  pub column_may : MayLie (lies_told ls (first_line_of d ls)).0 (lies_told ls (first_line_of d ls)).1
  column_may = lies_may ls d (first_line_of d ls) (fit_in ls ls d sound made) (λ p. fit_in ls ls p sound made)

  pub column_form : (xs : List ℤ) (i : Index) → IsSome (changed_at (all_set (zip (indices_told (first_line_of d ls)) xs)) None i) →
      is_of_form (lies_told ls (first_line_of d ls)).1 i ≡ true
  column_form xs i there =
      index_form ls d (first_line_of d ls) i (fit_in ls ls d sound made) (λ p. fit_in ls ls p sound made)
      (has_index (indices_told (first_line_of d ls)) xs i (subst_there (column_set (zip (indices_told (first_line_of d ls)) xs) i) there))
    where
      subst_there : {o p : Option ℤ} → o ≡ p → IsSome o → IsSome p
      subst_there same some = sym (ap (λ o. is_some o) same) ∙ some

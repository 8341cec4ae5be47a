-- Elements at the indices of a rectangle, one after another.
use Rattle.std.proofs.Common.{◌≡◌, ℕ, ◌+◌, ◌<◌, ℤ, List, [], ◌∷◌, ◌++◌, Option, Some, None, map, take, length, slice_get, option_and_then, refl, sym, ap, ◌∙◌}
use Rattle.std.specs.List.{filter_map, zip}
use Rattle.std.specs.List.Sorted.{IsStrictlySortedBy}
use Rattle.std.specs.Map.{keys_of}
use Rattle.std.specs.Option.{option_to_list}
use Rattle.std.proofs.lemmas.Option.{get_or_from_slice_get}
use Rattle.wb_cells.specs.declared.values.index.Index.{Index}
use Rattle.wb_cells.specs.declared.values.index.Index.TheVariants.{Point}
use Rattle.wb_cells.specs.Cells.{index_cmp}
use Rattle.wb_cells.specs.Runs.{numbered_entries}
use Rattle.wb_cells.specs.Shapes.{Range, indices}
use Rattle.wb_book.specs.Piecewise.Changed.{changed_at, all_set}
use Rattle.wb_elements.specs.Entries.{element_at}
use Rattle.wb_elements.specs.Piecewise.Marked.{as_changes}
use Rattle.wb_elements.proofs.Blocks.{fresh_after}
use Rattle.wb_text.specs.FromLines.Inserted.{last_of}
use Rattle.wb_text.proofs.Listing.{given_more, is_there}
use Rattle.wb_reading.proofs.Columnwise.{column_set}

-- what a function gives of the item at one place more
pub more_at : {X Y : Type 0} (h : X → Option Y) (xs : List X) (p : ℕ) (o : Option Y) → p < length xs → o ≡ option_and_then h (slice_get xs p) →
    filter_map h (take (p + 1) xs) ≡ filter_map h (take p xs) ++ option_to_list o
more_at {X} {Y} h xs p o below e =
    elim (slice_get xs p) as (λ i. slice_get xs p ≡ i → o ≡ option_and_then h i → filter_map h (take (p + 1) xs) ≡ filter_map h (take p xs) ++ option_to_list o) [
      | None ↦ λ is. λ f. absurd (is_there xs p below (sym is))
      | Some x ↦ λ is. λ f. given_more h xs p x o below (f ∙ ap h (sym (get_or_from_slice_get xs p x x is)))
    ] refl e

-- numbers at the points of a rectangle, as changes
entries_set : (ps : List (List ℤ)) (ns : List ℤ) → as_changes Point (zip ps (map (λ n. Some n) ns)) ≡ all_set (zip (map Point ps) ns)
entries_set [] ns = refl
entries_set (p ∷ ps) [] = refl
entries_set (p ∷ ps) (n ∷ ns) = ap (λ ks. (Point p, Some n) ∷ ks) (entries_set ps ns)

-- what stands where numbers were set at the indices of a rectangle
pub stands : (es : List (Index × ℤ)) (rs : List Range) (ns : List ℤ) → IsStrictlySortedBy index_cmp (keys_of es) →
    all_set es ≡ as_changes Point (numbered_entries rs ns) → (i : Index) → element_at es i ≡ last_of index_cmp (zip (indices rs) ns) i
stands es rs ns sorted are i =
    fresh_after es [] (numbered_entries rs ns) sorted are refl i
    ∙ ap (λ ks. changed_at ks None i) (entries_set _ ns)
    ∙ column_set (zip (indices rs) ns) i

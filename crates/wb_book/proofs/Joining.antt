-- What is kept is the workbook whose parts it is made of.
use Rattle.std.proofs.Common.{◌≡◌, Bool, true, false, cond, List, [], ◌∷◌, Option, None, IsSome, refl, sym, ap, subst, ◌∙◌}
use Rattle.std.specs.BTreeMap.{BTreeMap}
use Rattle.std.specs.Cmp.Lexicographic.{slice_cmp}
use Rattle.std.specs.FinMap.{get}
use Rattle.std.specs.List.{AllByRecursion}
use Rattle.std.specs.List.Sorted.{IsStrictlySortedBy}
use Rattle.std.specs.Map.{keys_of}
use Rattle.std.specs.Option.{option_map}
use Rattle.std.specs.Ordering.{nat_cmp}
use Rattle.wb_cells.specs.declared.cells.cell.Cell.{Cell}
use Rattle.wb_cells.specs.declared.cells.value.Value.{Value}
use Rattle.wb_cells.specs.Cells.{Stored, Name, Cells, cell_cmp, state_of}
use Rattle.wb_cells.specs.WellFormed.{IsWellFormed, array_at}
use Rattle.wb_cells.proofs.Order.{each_found}
use Rattle.wb_cells.proofs.Shown.{get-state_of}
use Rattle.wb_book.specs.Joined.{is_stored, stored_in, AllStored}
use Rattle.wb_book.specs.Stored.{stored_cells}
use Rattle.wb_book.proofs.Stored.{get-stored_cells, get-stored}
use Rattle.wb_book.specs.Kept.{Pieced, array_in}
use Rattle.wb_book.specs.Parts.{AreParts}
use Rattle.wb_book.specs.Shelf.{cells_of, IsShelf, lies_by}
use Rattle.wb_book.proofs.Same.{same_cells}

by_keys : (es : List (Cell × Value)) → AllByRecursion (λ x. is_stored x ≡ true) (keys_of es) → AllStored es
by_keys [] all = tt
by_keys (e ∷ es) all = (all.0, by_keys es all.1)

module _ (cells : Stored) (s : Cells) (is : state_of cells ≡ stored_cells s) where
  stored_there : (c : Cell) → IsSome (get (state_of cells) c) → is_stored c ≡ true
  stored_there c there = by (is_stored c) (subst (λ (o : Option Value). IsSome o) (ap (λ (t : Cells). get t c) is ∙ get-stored_cells s c) there)
    where
      by : (b : Bool) → IsSome (cond b (get s c) None) → b ≡ true
      by true h = refl
      by false h = cc

  each_stored : (xs : List Cell) → AllByRecursion (λ c. IsSome (stored_in cells.entries c)) xs → AllByRecursion (λ x. is_stored x ≡ true) xs
  each_stored [] there = tt
  each_stored (x ∷ xs) there = (stored_there x (subst (λ (o : Option Value). IsSome o) (sym (get-state_of cells x)) there.0), each_stored xs there.1)

  all_stored : AllStored cells.entries
  all_stored = by_keys cells.entries (each_stored (keys_of cells.entries) (each_found cells.entries))

module _ (cells : Stored) (arrays : BTreeMap Name Pieced) (s : Cells) (ordered : IsStrictlySortedBy cell_cmp (keys_of cells.entries))
    (by_name : IsStrictlySortedBy (slice_cmp nat_cmp) (keys_of arrays.entries)) (parts : AreParts cells arrays s) where
  pub parts_are : cells_of cells arrays ≡ s
  parts_are =
      same_cells cells arrays s (record { stored = all_stored cells s parts.stored; ascending = ordered; by_name = by_name }) parts.well_formed
      (λ c st. sym (get-state_of cells c) ∙ ap (λ (t : Cells). get t c) parts.stored ∙ get-stored s c st)
      parts.elements

  pub parts_kept : IsShelf cells arrays
  parts_kept = record {
    well_formed = subst (λ (t : Cells). IsWellFormed t) (sym parts_are) parts.well_formed;
    stored = all_stored cells s parts.stored;
    ascending = ordered;
    by_name = by_name;
    lie = λ a. subst (λ (t : Cells). option_map (λ p. p.1) (array_in arrays.entries a) ≡ lies_by t (array_at t a)) (sym parts_are) (parts.lie a);
  }

-- What a workbook has in its cells fits them.
use Rattle.std.proofs.Common.{◌≡◌, [], ◌∷◌, Option, Some, None, IfSome, refl, sym, subst, ◌∙◌}
use Rattle.std.specs.BTreeMap.{BTreeMap}
use Rattle.std.specs.FinMap.{get}
use Rattle.std.specs.List.{All, AllByRecursion}
use Rattle.std.proofs.lemmas.List.Elements.{All-from_recursion}
use Rattle.selective_undo.specs.Changes.{inverse}
use Rattle.wb_cells.specs.declared.cells.cell.Cell.{Cell}
use Rattle.wb_cells.specs.declared.cells.cell.Cell.TheVariants.{Object, Shape, In, Member, Mapping, Use, Implicit, Element}
use Rattle.wb_cells.specs.declared.cells.value.Value.{Value}
use Rattle.wb_cells.specs.declared.cells.value.Value.TheVariants.{Present}
use Rattle.wb_cells.specs.declared.values.index.Index.{Index}
use Rattle.wb_cells.specs.Cells.{Stored, Name, Cells, Changes, state_of}
use Rattle.wb_cells.specs.Stored.{Fits, FitsChange}
use Rattle.wb_cells.specs.WellFormed.{IsMember, domain_at}
use Rattle.wb_cells.proofs.Shown.{get-state_of}
use Rattle.wb_book.specs.Shelf.{Pieced, cells_of, IsShelf}
use Rattle.wb_book.proofs.ElementsSet.{stored_there}

anything : (o : Option Value) → IfSome o (λ v. Unit {0})
anything None = tt
anything (Some v) = tt

module _ (s : Cells) (present : (d : Name) (i : Index) → IfSome (get s (Member d i)) (λ v. v ≡ Present)) where
  value_fits : (c : Cell) → IfSome (get s c) (Fits c)
  value_fits (Object n) = anything (get s (Object n))
  value_fits (Shape n) = anything (get s (Shape n))
  value_fits (In n i) = anything (get s (In n i))
  value_fits (Member d i) = present d i
  value_fits (Mapping n) = anything (get s (Mapping n))
  value_fits (Use d n) = anything (get s (Use d n))
  value_fits (Implicit n) = anything (get s (Implicit n))
  value_fits (Element n i) = anything (get s (Element n i))

  each_fits : (xs : Changes) → AllByRecursion FitsChange (inverse xs s)
  each_fits [] = tt
  each_fits (x ∷ xs) = (value_fits x.cell, each_fits xs)

  all_fit : (xs : Changes) → All FitsChange (inverse xs s)
  all_fit xs = All-from_recursion FitsChange (inverse xs s) (each_fits xs)

-- in a member of a workbook stands that it is there
pub values_fit : (cells : Stored) (arrays : BTreeMap Name Pieced) → IsShelf cells arrays → (xs : Changes) →
    All FitsChange (inverse xs (state_of cells))
values_fit cells arrays kept xs = all_fit (state_of cells) present xs
  where
    w : Cells
    w = cells_of cells arrays

    by : (d : Name) (i : Index) (o : Option Value) → IsMember w (domain_at w d) i o → IfSome o (λ v. v ≡ Present)
    by d i None m = tt
    by d i (Some v) m = m.0

    present : (d : Name) (i : Index) → IfSome (get (state_of cells) (Member d i)) (λ v. v ≡ Present)
    present d i =
        subst (λ (o : Option Value). IfSome o (λ v. v ≡ Present)) (sym (get-state_of cells (Member d i) ∙ stored_there cells arrays kept (Member d i) refl))
        (by d i (get w (Member d i)) (kept.well_formed.members d i))

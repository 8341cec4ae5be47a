-- How many of the changes of a row are counted.
use Rattle.std.proofs.Common.{◌≡◌, ℤ, List, [], ◌∷◌, length, zero, suc, Option, refl, ap}
use Rattle.wb_cells.specs.declared.changes.row.IndexedRow.TheVariants.{Inside, Members, Elements}
use Rattle.wb_cells.specs.Cells.{Name, count_of}
use Rattle.wb_cells.specs.Runs.{packed_changes}

pub none_inside : (d : Name) (es : List (List ℤ × Option ℤ)) → count_of (packed_changes (Inside d) es) ≡ zero
none_inside d [] = refl
none_inside d (e ∷ es) = none_inside d es

pub all_members : (d : Name) (es : List (List ℤ × Option ℤ)) → count_of (packed_changes (Members d) es) ≡ length es
all_members d [] = refl
all_members d (e ∷ es) = ap suc (all_members d es)

pub all_elements : (a : Name) (es : List (List ℤ × Option ℤ)) → count_of (packed_changes (Elements a) es) ≡ length es
all_elements a [] = refl
all_elements a (e ∷ es) = ap suc (all_elements a es)

-- all that there are
pub members_counted : (d : Name) (es : List (List ℤ × Option ℤ)) → count_of (packed_changes (Members d) es) ≡ length (packed_changes (Members d) es)
members_counted d [] = refl
members_counted d (e ∷ es) = ap suc (members_counted d es)

pub elements_counted : (a : Name) (es : List (List ℤ × Option ℤ)) → count_of (packed_changes (Elements a) es) ≡ length (packed_changes (Elements a) es)
elements_counted a [] = refl
elements_counted a (e ∷ es) = ap suc (elements_counted a es)

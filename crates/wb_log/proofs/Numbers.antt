-- Plans that change one cell, and what is kept of them.
use Rattle.std.proofs.Common.{◌≡◌, true, [], ◌∷◌, length, get_or, None, refl, ap, arith}
use Rattle.std.specs.FinMap.{get}
use Rattle.std.specs.Ordering.{eq_by_cmp, is_eq}
use Rattle.std.specs.declared.cmp.Ordering.{Ordering}
use Rattle.std.specs.declared.cmp.Ordering.TheVariants.{Less, Equal, Greater}
use Rattle.selective_undo.specs.Changes.{inverse}
use Rattle.wb_cells.specs.declared.cells.cell.Cell.{Cell}
use Rattle.wb_cells.specs.Cells.{Cells, Changes, cell_cmp, cell_cmp-IsAntisymmetric}
use Rattle.wb_cells.specs.declared.cells.pattern.Pattern.TheVariants.{One}
use Rattle.wb_cells.specs.Reads.{patterns_of}
use Rattle.wb_log.specs.declared.entry.RecordForm.{RecordForm}
use Rattle.wb_log.specs.declared.entry.RecordForm.TheVariants.{Set, Copy, Irv, Member, Fill, Sets, Fills, Whole}
use Rattle.wb_log.specs.Records.{kept_of}

equal_from : (p : Ordering) → is_eq p ≡ true → p ≡ Equal
equal_from Less e = cc
equal_from Equal e = refl
equal_from Greater e = cc

pub same_cell : (a b : Cell) → eq_by_cmp cell_cmp a b ≡ true → a ≡ b
same_cell a b e = cell_cmp-IsAntisymmetric a b (equal_from (cell_cmp a b) e)

-- what takes back a change of one cell
pub one_change : (xs : Changes) (d : _) (c : Cell) → length xs ≡ 1 → eq_by_cmp cell_cmp (get_or xs 0 d).cell c ≡ true → (s : Cells) →
    inverse xs s ≡ record { cell = c; value = get s c } ∷ []
one_change [] d c one e s = absurd (omega (arith, one))
one_change (x ∷ []) d c one e s = let same = same_cell x.cell c e in ap (λ y. record { cell = y; value = get s y } ∷ []) same
one_change (x ∷ y ∷ xs) d c one e s = absurd (omega (arith, one))

-- the patterns of one cell
pub one_listed : (xs : Changes) (d : _) (c : Cell) → length xs ≡ 1 → eq_by_cmp cell_cmp (get_or xs 0 d).cell c ≡ true → patterns_of xs ≡ One c ∷ []
one_listed [] d c one e = absurd (omega (arith, one))
one_listed (x ∷ []) d c one e = let same = same_cell x.cell c e in ap (λ y. One y ∷ []) same
one_listed (x ∷ y ∷ xs) d c one e = absurd (omega (arith, one))

-- nothing is kept where nothing is told of the cell
pub none_kept : (f : RecordForm) → kept_of f None ≡ None
none_kept (Set x) = refl
none_kept (Copy x) = refl
none_kept (Irv x) = refl
none_kept (Member x) = refl
none_kept (Fill x) = refl
none_kept (Sets x) = refl
none_kept (Fills x) = refl
none_kept (Whole w) = refl

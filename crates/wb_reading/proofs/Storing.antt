-- Putting in the stored cells of lines makes the stored cells of what all their cells make.
use Rattle.std.proofs.Common.{◌≡◌, ℤ, Bool, true, false, cond, List, [], ◌∷◌, Option, Some, None, refl, sym, ap, ◌∙◌}
use Rattle.std.specs.Cmp.{Equal-is}
use Rattle.std.specs.FinMap.{get, insert, empty, get-empty, get-insert}
use Rattle.std.specs.Ordering.{eq_by_cmp}
use Rattle.selective_undo.proofs.Changes.{same_states}
use Rattle.wb_cells.specs.declared.cells.cell.Cell.{Cell}
use Rattle.wb_cells.specs.declared.cells.cell.Cell.TheVariants.{In, Member}
use Rattle.wb_cells.specs.declared.cells.value.Value.{Value}
use Rattle.wb_cells.specs.declared.values.index.Index.{Index}
use Rattle.wb_cells.specs.Cells.{Name, Cells, cell_cmp, cell_order}
use Rattle.wb_cells.specs.Shapes.{indices}
use Rattle.wb_book.specs.Joined.{is_stored, AllStored}
use Rattle.wb_book.specs.Stored.{stored_cells}
use Rattle.wb_book.proofs.Stored.{get-stored_cells}
use Rattle.wb_text.specs.Said.{Line, rectangular, sparse, associative, array, first_line_of}
use Rattle.wb_text.specs.FromLines.Inserted.{inserted}
use Rattle.wb_text.specs.FromLines.Told.{presents, element_cells, stored_told, derived_told, cells_of, cells_put, indices_told, stored_put}
use Rattle.std.specs.List.{zip}

-- ---- one cell

same_stored : (x c : Cell) (b : Bool) → eq_by_cmp cell_cmp x c ≡ true → is_stored c ≡ b → is_stored x ≡ b
same_stored x c b same st = ap is_stored (cell_order.strict x c ((Equal-is _).0 same)) ∙ st

module _ (s : Cells) (c : Cell) (v : Value) where
  get-put : (x : Cell) → get (stored_cells (insert s c v)) x ≡ cond (is_stored x) (cond (eq_by_cmp cell_cmp x c) (Some v) (get s x)) None
  get-put x = get-stored_cells (insert s c v) x ∙ ap (λ (o : Option Value). cond (is_stored x) o None) (get-insert cell_order.total s c v x)

  stored-insert : is_stored c ≡ true → insert (stored_cells s) c v ≡ stored_cells (insert s c v)
  stored-insert st = same_states cell_order _ _ λ x.
      get-insert cell_order.total (stored_cells s) c v x
      ∙ ap (λ (o : Option Value). cond (eq_by_cmp cell_cmp x c) (Some v) o) (get-stored_cells s x)
      ∙ by x (eq_by_cmp cell_cmp x c) refl
      ∙ sym (get-put x)
    where
      by : (x : Cell) (b : Bool) → eq_by_cmp cell_cmp x c ≡ b → cond (eq_by_cmp cell_cmp x c) (Some v) (cond (is_stored x) (get s x) None) ≡ cond (is_stored x)
          (cond (eq_by_cmp cell_cmp x c) (Some v) (get s x)) None
      by x true same = rw (same, same_stored x c true same st) refl
      by x false other = rw other refl

  stored-other : is_stored c ≡ false → stored_cells (insert s c v) ≡ stored_cells s
  stored-other st = same_states cell_order _ _ λ x. get-put x ∙ by x (eq_by_cmp cell_cmp x c) refl ∙ sym (get-stored_cells s x)
    where
      by : (x : Cell) (b : Bool) → eq_by_cmp cell_cmp x c ≡ b → cond (is_stored x) (cond (eq_by_cmp cell_cmp x c) (Some v) (get s x)) None ≡ cond (is_stored x)
          (get s x) None
      by x true same = rw (same_stored x c false same st) refl
      by x false other = rw other refl

-- ---- some cells

abbrev NoneStored : List (Cell × Value) → Type 0
NoneStored [] = Unit {0}
NoneStored (e ∷ es) = (is_stored e.0 ≡ false) × NoneStored es

all_put : (es : List (Cell × Value)) (s : Cells) → AllStored es → inserted es (stored_cells s) ≡ stored_cells (inserted es s)
all_put [] s all = refl
all_put (e ∷ es) s all = ap (inserted es) (stored-insert s e.0 e.1 all.0) ∙ all_put es (insert s e.0 e.1) all.1

none_put : (es : List (Cell × Value)) (s : Cells) → NoneStored es → stored_cells (inserted es s) ≡ stored_cells s
none_put [] s none = refl
none_put (e ∷ es) s none = none_put es (insert s e.0 e.1) none.1 ∙ stored-other s e.0 e.1 none.0

members_stored : (d : Name) (is : List Index) → AllStored (presents (Member d) is)
members_stored d [] = tt
members_stored d (i ∷ is) = (refl, members_stored d is)

insides_not : (d : Name) (is : List Index) → NoneStored (presents (In d) is)
insides_not d [] = tt
insides_not d (i ∷ is) = (refl, insides_not d is)

numbers_not : (a : Name) (ps : List (Index × ℤ)) → NoneStored (element_cells a ps)
numbers_not a [] = tt
numbers_not a (p ∷ ps) = (refl, numbers_not a ps)

-- ---- the cells of a line

stored_all : (ls : List Line) (l : Line) → AllStored (stored_told ls l)
stored_all ls (rectangular d rs m) = (refl, (refl, (refl, tt)))
stored_all ls (sparse d parent is) = (refl, (refl, members_stored d is))
stored_all ls (associative d type is) = (refl, members_stored d is)
stored_all ls (array a d xs irv) = (refl, (refl, (refl, tt)))

derived_not : (ls : List Line) (l : Line) → NoneStored (derived_told ls l)
derived_not ls (rectangular d rs m) = insides_not d (indices rs)
derived_not ls (sparse d parent is) = tt
derived_not ls (associative d type is) = tt
derived_not ls (array a d xs irv) = numbers_not a (zip (indices_told (first_line_of d ls)) xs)

both_told : (ls : List Line) (l : Line) (s : Cells) → inserted (derived_told ls l) (inserted (stored_told ls l) s) ≡ inserted (cells_of ls l) s
both_told ls (rectangular d rs m) s = refl
both_told ls (sparse d parent is) s = refl
both_told ls (associative d type is) s = refl
both_told ls (array a d xs irv) s = refl

line_stored : (ls : List Line) (l : Line) (s : Cells) → inserted (stored_told ls l) (stored_cells s) ≡ stored_cells (inserted (cells_of ls l) s)
line_stored ls l s =
    all_put (stored_told ls l) s (stored_all ls l)
    ∙ sym (none_put (derived_told ls l) (inserted (stored_told ls l) s) (derived_not ls l))
    ∙ ap stored_cells (both_told ls l s)

-- ---- the cells of all lines

lines_stored : (ls more : List Line) (s : Cells) → stored_put ls more (stored_cells s) ≡ stored_cells (cells_put ls more s)
lines_stored ls [] s = refl
lines_stored ls (l ∷ more) s = ap (stored_put ls more) (line_stored ls l s) ∙ lines_stored ls more (inserted (cells_of ls l) s)

nothing_by : (o : Option Value) (b : Bool) → o ≡ None → cond b o None ≡ o
nothing_by o true e = refl
nothing_by o false e = sym e

nothing_stored : stored_cells empty ≡ empty
nothing_stored = same_states cell_order _ _ λ x. get-stored_cells empty x ∙ nothing_by _ (is_stored x) (get-empty cell_cmp x)

pub told_stored : (ls : List Line) → stored_put ls ls empty ≡ stored_cells (cells_put ls ls empty)
told_stored ls = ap (stored_put ls ls) (sym nothing_stored) ∙ lines_stored ls ls empty

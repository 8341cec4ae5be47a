-- Elements set one after another at the indices of a column.
use Rattle.std.proofs.Common.{◌≡◌, ℤ, Bool, true, false, cond, List, [], ◌∷◌, Option, Some, None, refl, ◌∙◌}
use Rattle.wb_cells.specs.declared.values.index.Index.{Index}
use Rattle.wb_cells.specs.Cells.{index_cmp, is_same_index}
use Rattle.wb_book.specs.Piecewise.Changed.{changed_at, all_set}
use Rattle.wb_text.specs.FromLines.Inserted.{or_else, last_of}

either : (last o : Option ℤ) (b : Bool) (z : ℤ) → or_else last (cond b (Some z) o) ≡ or_else (or_else last (cond b (Some z) None)) o
either None None true z = refl
either None (Some y) true z = refl
either (Some x) None true z = refl
either (Some x) (Some y) true z = refl
either None None false z = refl
either None (Some y) false z = refl
either (Some x) None false z = refl
either (Some x) (Some y) false z = refl

none_last : (o : Option ℤ) → o ≡ or_else None o
none_last None = refl
none_last (Some z) = refl

set_at : (ps : List (Index × ℤ)) (o : Option ℤ) (i : Index) → changed_at (all_set ps) o i ≡ or_else (last_of index_cmp ps i) o
set_at [] o i = none_last o
set_at (p ∷ ps) o i = set_at ps (cond (is_same_index i p.0) (Some p.1) o) i ∙ either (last_of index_cmp ps i) o (is_same_index i p.0) p.1

pub column_set : (ps : List (Index × ℤ)) (i : Index) → changed_at (all_set ps) None i ≡ last_of index_cmp ps i
column_set ps i = set_at ps None i

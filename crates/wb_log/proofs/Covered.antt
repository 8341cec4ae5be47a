-- Which cells the patterns of runs name.
use Rattle.std.proofs.Common.{◌≡◌, Bool, true, false, ◌||◌, List, [], ◌∷◌, refl, sym, ap, ◌∙◌}
use Rattle.std.specs.List.{list_any}
use Rattle.std.specs.Ordering.{eq_by_cmp}
use Rattle.std.proofs.lemmas.Cmp.{eq_by_cmp_equiv}
use Rattle.std.proofs.lemmas.List.Folds.{list_any-append}
use Rattle.selective_undo.specs.Changes.{changes}
use Rattle.selective_undo.specs.Edit.{covers}
use Rattle.wb_cells.specs.declared.cells.cell.Cell.{Cell}
use Rattle.wb_cells.specs.declared.cells.pattern.Pattern.{Pattern}
use Rattle.wb_cells.specs.Cells.{Changes, cell_cmp, cell_cmp_total, matches}
use Rattle.wb_cells.specs.declared.reads.ReadRun.{ReadRun}
use Rattle.wb_cells.specs.Reads.{patterns_of, read_in, all_read}
use Rattle.wb_cells.specs.Schema.{workbook}

or_false : (a : Bool) → a || false ≡ a
or_false true = refl
or_false false = refl

pub alone_covers : (p : Pattern) (c : Cell) → matches p c ≡ covers workbook (p ∷ []) c
alone_covers p c = sym (or_false (matches p c))

pub cells_cover : (xs : Changes) (c : Cell) → changes cell_cmp xs c ≡ covers workbook (patterns_of xs) c
cells_cover [] c = refl
cells_cover (x ∷ xs) c = ap (λ b. b || changes cell_cmp xs c) ((eq_by_cmp_equiv cell_cmp_total).symm c x.cell) ∙
    ap (λ b. eq_by_cmp cell_cmp x.cell c || b) (cells_cover xs c)

pub any_covers : (rs : List ReadRun) (c : Cell) → list_any (λ r. covers workbook (read_in r) c) rs ≡ covers workbook (all_read rs) c
any_covers [] c = refl
any_covers (r ∷ rs) c = ap (λ b. covers workbook (read_in r) c || b) (any_covers rs c) ∙
    sym (list_any-append (λ p. matches p c) (read_in r) (all_read rs))

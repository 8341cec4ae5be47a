-- The cells put in line by line are those that the lines tell of.
use Rattle.std.proofs.Common.{◌≡◌, Bool, true, false, cond, List, [], ◌∷◌, Option, Some, None, is_some, refl, ap, ◌∙◌}
use Rattle.std.specs.Cmp.{Equal-is}
use Rattle.std.specs.FinMap.{get, empty, get-empty}
use Rattle.wb_cells.specs.declared.cells.cell.Cell.{Cell}
use Rattle.wb_cells.specs.Cells.{Cells, cell_cmp, cell_order, is_same_name, same_names}
use Rattle.wb_text.specs.Said.{Line, name_of, first_line_of}
use Rattle.wb_text.specs.FromLines.Inserted.{inserted, or_else, last_of}
use Rattle.wb_text.specs.FromLines.Told.{owner, cells_of, cells_put, are_distinct, told_by, told}
use Rattle.wb_text.proofs.FromLines.Inserts.{none_first, get-inserted}
use Rattle.wb_text.proofs.FromLines.Owners.{others, mine}

not_another : (b : Bool) (l : Line) (o : Option Line) → cond b (Some l) o ≡ None → (b ≡ false) × (o ≡ None)
not_another true l o e = cc
not_another false l o e = (refl, e)

-- a line of another name leaves a cell as it is
kept : (ls : List Line) (l : Line) (s : Cells) (c : Cell) → is_same_name (owner c) (name_of l) ≡ false → get (inserted (cells_of ls l) s) c ≡ get s c
kept ls l s c f = get-inserted cell_order (cells_of ls l) s c ∙ ap (λ o. or_else o (get s c)) (others ls l c f) ∙ none_first (get s c)

unowned : (ls more : List Line) (s : Cells) (c : Cell) → first_line_of (owner c) more ≡ None → get (cells_put ls more s) c ≡ get s c
unowned ls [] s c h = refl
unowned ls (l ∷ more) s c h =
    let parts = not_another (is_same_name (owner c) (name_of l)) l (first_line_of (owner c) more) h in
    unowned ls more (inserted (cells_of ls l) s) c parts.1 ∙ kept ls l s c parts.0

first_alone : (o : Option Line) (b : Bool) → cond (is_some o) false b ≡ true → (o ≡ None) × (b ≡ true)
first_alone None b e = (refl, e)
first_alone (Some l) b e = cc

owned : (ls more : List Line) (s : Cells) (c : Cell) → are_distinct more ≡ true → get s c ≡ None →
    get (cells_put ls more s) c ≡ told_by ls (first_line_of (owner c) more) c
owned ls [] s c distinct h = h
owned ls (l ∷ more) s c distinct h =
    let parts = first_alone (first_line_of (name_of l) more) (are_distinct more) distinct in
    elim (is_same_name (owner c) (name_of l)) as (λ b. is_same_name (owner c) (name_of l) ≡ b →
    get (cells_put ls more (inserted (cells_of ls l) s)) c ≡ told_by ls (cond b (Some l) (first_line_of (owner c) more)) c) [
      | true ↦ λ e.
          let same : owner c ≡ name_of l = same_names (owner c) (name_of l) ((Equal-is _).0 e) in
          unowned ls more (inserted (cells_of ls l) s) c (ap (λ n. first_line_of n more) same ∙ parts.0)
          ∙ get-inserted cell_order (cells_of ls l) s c ∙ ap (or_else (last_of cell_cmp (cells_of ls l) c)) h ∙ mine ls l c e
      | false ↦ λ f. owned ls more (inserted (cells_of ls l) s) c parts.1 (kept ls l s c f ∙ h)
    ] refl

pub built : (ls : List Line) → are_distinct ls ≡ true → (c : Cell) → get (cells_put ls ls empty) c ≡ told ls c
built ls distinct c = owned ls ls empty c distinct (get-empty cell_cmp c)

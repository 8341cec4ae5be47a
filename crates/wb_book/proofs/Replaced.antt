-- An element was replaced, if it was there.
use Rattle.std.proofs.Common.{◌≡◌, ℤ, false, cond, List, [], Option, Some, None, is_some, IsSome, IfNone, refl, sym, ap, ◌∙◌}
use Rattle.std.proofs.lemmas.Map.Steps.{set_value_same}
use Rattle.std.specs.BTreeMap.{BTreeMap, is_at}
use Rattle.std.specs.Cmp.Lexicographic.{slice_cmp}
use Rattle.std.specs.FinMap.{get}
use Rattle.std.specs.Map.{keys_of, set_value}
use Rattle.std.specs.Option.{option_map}
use Rattle.std.specs.Ordering.{nat_cmp}
use Rattle.selective_undo.specs.Changes.{apply}
use Rattle.wb_arrays.specs.Elements.{value_at}
use Rattle.wb_arrays.proofs.Changes.{set_value-none}
use Rattle.wb_cells.specs.declared.cells.cell.Cell.TheVariants.{Element}
use Rattle.wb_cells.specs.declared.cells.value.Value.TheVariants.{Number}
use Rattle.wb_cells.specs.declared.values.index.Index.{Index}
use Rattle.wb_cells.specs.Cells.{Stored, Name, Cells, index_cmp, is_same_name}
use Rattle.wb_cells.specs.WellFormed.{IsWellFormed}
use Rattle.wb_book.specs.Joined.{element_in}
use Rattle.wb_book.specs.Kept.{Pieced, array_in, with_element, element_set}
use Rattle.wb_book.specs.Shelf.{cells_of, IsShelf}
use Rattle.wb_book.proofs.ElementsSet.{set_whole}
use Rattle.wb_book.proofs.Kept.{get-cells_of}
use Rattle.wb_book.proofs.Same.{agree_step, lie_more}

-- where no such element was, all stays
pub stays : (es fs : List (Name × Pieced)) (a : Name) (i : Index) (v : ℤ) (p w : Pieced) (o : Option ℤ) → o ≡ value_at index_cmp p.0 i →
    array_in es a ≡ Some p → w ≡ (set_value (is_at (index_cmp i)) p.0 v, p.1) → fs ≡ set_value (is_at (slice_cmp nat_cmp a)) es w → IfNone o (fs ≡ es)
stays es fs a i v p w (Some z) was found made written = tt
stays es fs a i v p w None was found made written =
    let same : w ≡ p = made ∙ ap (λ xs. (xs, p.1)) (set_value-none (is_at (index_cmp i)) p.0 v (sym was)) in
    written ∙ ap (set_value (is_at (slice_cmp nat_cmp a)) es) same ∙ set_value_same (is_at (slice_cmp nat_cmp a)) es p found

-- the same arrays are the same workbook
pub same_shelf : (cells : Stored) (arrays fresh : BTreeMap Name Pieced) → IsShelf cells arrays → fresh.entries ≡ arrays.entries →
    (cells_of cells fresh ≡ cells_of cells arrays) × IsShelf cells fresh
same_shelf cells arrays fresh kept same =
    set_whole cells arrays fresh [] kept kept.well_formed refl (ap keys_of same)
    (λ b. ap (λ (es : List (Name × Pieced)). option_map (λ p. p.1) (array_in es b)) same)
    (λ s agree b j. ap (λ (es : List (Name × Pieced)). option_map Number (element_in es b j)) same ∙ agree b j)

-- the cells afterwards, by what was there
abbrev pub Replaced : Cells → Name → Index → ℤ → Option ℤ → Cells → Type 0
Replaced s a i v (Some w) t = t ≡ apply (element_set a i v) s
Replaced s a i v None t = t ≡ s

module _ (cells : Stored) (arrays fresh : BTreeMap Name Pieced) (a : Name) (i : Index) (v : ℤ) (kept : IsShelf cells arrays)
    (formed : IsSome (get (cells_of cells arrays) (Element a i)) → IsWellFormed (apply (element_set a i v) (cells_of cells arrays)))
    (names : keys_of fresh.entries ≡ keys_of arrays.entries)
    (made : (b : Name) → array_in fresh.entries b ≡ cond (is_same_name a b) (with_element (array_in arrays.entries b) i v) (array_in arrays.entries b)) where
  lie : (b : Name) → option_map (λ p. p.1) (array_in fresh.entries b) ≡ option_map (λ p. p.1) (array_in arrays.entries b)
  lie b = lie_more (array_in arrays.entries b) (array_in fresh.entries b) (is_same_name a b) i v (made b)

  pub replaced : (o : Option ℤ) → o ≡ element_in arrays.entries a i → IfNone o (fresh.entries ≡ arrays.entries) →
      Replaced (cells_of cells arrays) a i v o (cells_of cells fresh) × IsShelf cells fresh
  replaced (Some w) is same =
      let there : IsSome (element_in arrays.entries a i) = ap is_some (sym is) in
      let here : IsSome (get (cells_of cells arrays) (Element a i)) =
      ap is_some (get-cells_of cells arrays kept (Element a i) ∙ ap (option_map Number) (sym is)) in
      set_whole cells arrays fresh (element_set a i v) kept (formed here) (rw there refl) names lie
      (λ s agree. agree_step arrays.entries fresh.entries s a i v there made agree)
  replaced None is same = same_shelf cells arrays fresh kept same

-- what is known where none was there
pub none_there : (o : Option ℤ) (P : Type 0) → is_some o ≡ false → IfNone o P → P
none_there None P e known = known
none_there (Some z) P e known = cc

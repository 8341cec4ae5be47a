-- Looks at indices in many domains.
use Rattle.std.proofs.Common.{◌≡◌, ℕ, ◌+◌, ◌<◌, ◌||◌, List, [], ◌∷◌, ◌++◌, map, take, length, get_or, is_some, sym, ap, ◌∙◌, append_assoc, append-nil, add-one}
use Rattle.std.proofs.Math.Seq.{take-suc}
use Rattle.std.proofs.lemmas.Grind.{flat_map-append}
use Rattle.std.proofs.lemmas.List.Folds.{list_any-append}
use Rattle.std.specs.FinMap.{get}
use Rattle.std.specs.List.{list_any}
use Rattle.wb_cells.specs.declared.cells.cell.Cell.TheVariants.{Member}
use Rattle.wb_cells.specs.declared.cells.pattern.Pattern.{Pattern}
use Rattle.wb_cells.specs.declared.values.index.Index.{Index}
use Rattle.wb_cells.specs.Cells.{Name, Cells}
use Rattle.wb_cells.specs.Reads.{one_of}
use Rattle.wb_edit.specs.Reshaping.{member_cells}
use Rattle.wb_edit.proofs.IndexedRows.{map-append}

module _ (names : List Name) (is : List Index) (k : ℕ) (e : Name) (low : k < length names) (here : e ≡ get_or names k e) where
  cells_more : member_cells (take (k + 1) names) is ≡ member_cells (take k names) is ++ map (Member e) is
  cells_more =
      ap (λ n. member_cells (take n names) is) (add-one k)
      ∙ ap (λ (ns : List Name). member_cells ns is) (take-suc names k e low)
      ∙ ap (λ (n : Name). member_cells (take k names ++ n ∷ []) is) (sym here)
      ∙ flat_map-append (λ (n : Name). map (Member n) is) (take k names) (e ∷ [])
      ∙ ap (λ cs. member_cells (take k names) is ++ cs) (append-nil (map (Member e) is))

  -- one more domain
  pub reads_more : (rs : List Pattern) → rs ++ map one_of (member_cells (take (k + 1) names) is) ≡ (rs ++ map one_of (member_cells (take k names) is)) ++ map
      one_of (map (Member e) is)
  reads_more rs =
      ap (λ cs. rs ++ map one_of cs) cells_more
      ∙ ap (λ ps. rs ++ ps) (map-append one_of (member_cells (take k names) is) (map (Member e) is))
      ∙ sym (append_assoc rs (map one_of (member_cells (take k names) is)) (map one_of (map (Member e) is)))

  pub any_more : (s : Cells) → list_any is_some (map (get s) (member_cells (take (k + 1) names) is)) ≡
      (list_any is_some (map (get s) (member_cells (take k names) is)) || list_any is_some (map (get s) (map (Member e) is)))
  any_more s =
      ap (λ cs. list_any is_some (map (get s) cs)) cells_more
      ∙ ap (list_any is_some) (map-append (get s) (member_cells (take k names) is) (map (Member e) is))
      ∙ list_any-append is_some (map (get s) (member_cells (take k names) is)) (map (get s) (map (Member e) is))

-- A new value of an element that is there: it is accepted, and what it reads and takes back follows from what the element was.
use Rattle.std.proofs.Common.{◌≡◌, ℤ, true, [], ◌∷◌, Option, Some, None, Ok, IsSome, refl, ap, ◌∙◌}
use Rattle.std.specs.FinMap.{get}
use Rattle.wb_footprints.specs.Footprints.{element_reads}
use Rattle.selective_undo.specs.Edit.{outcome, reads, write}
use Rattle.wb_book.proofs.Formed.{element_of}
use Rattle.wb_book.specs.Kept.{element_set}
use Rattle.wb_cells.specs.declared.cells.cell.Cell.TheVariants.{Object, Element}
use Rattle.wb_cells.specs.declared.cells.kind.Kind.{Kind}
use Rattle.wb_cells.specs.declared.cells.pattern.Pattern.TheVariants.{One}
use Rattle.wb_cells.specs.declared.cells.value.Value.{Value}
use Rattle.wb_cells.specs.declared.cells.value.Value.TheVariants.{Number}
use Rattle.wb_cells.specs.declared.values.index.Index.{Index}
use Rattle.wb_cells.specs.Cells.{Name, Cells}
use Rattle.wb_cells.specs.Kinds.{is_key}
use Rattle.wb_cells.specs.WellFormed.{IsWellFormed}
use Rattle.wb_edit.specs.Commands.{set}
use Rattle.wb_edit.specs.Looks.{array_kind, is_there, fits, index_fits, element}
use Rattle.wb_edit.specs.Trees.{Tree, judged}
use Rattle.wb_edit.specs.Writes.{set_to}
use Rattle.wb_edit.proofs.Trees.{seen_value}

pub key_fits : (kind : Kind) (i : Index) → is_key kind i ≡ true → fits kind i ≡ Ok tt
key_fits kind i e = rw (e, fits) refl

some_there : (o : Option Value) → IsSome o → is_there o ≡ Ok tt
some_there o there = elim o as (λ p. IsSome p → is_there p ≡ Ok tt) [ Some w ↦ λ h. refl | None ↦ λ h. cc ] there

module _ (s : Cells) (formed : IsWellFormed s) (a : Name) (i : Index) (v : ℤ) (there : IsSome (get s (Element a i))) where
  abbrev last : Tree
  last = write (set_to (Element a i) (Number v) ∷ [])

  pub set_accepted : outcome (set a i v) s ≡ Ok (element_set a i v)
  set_accepted =
      let of = element_of s formed a i there in
      ap (λ (o : Option Value). outcome (judged (array_kind o) (λ array. index_fits array.1 i (λ x. element a i (λ y. last)))) s) (seen_value s (Object a) ∙ of.1)
      ∙ ap (λ r. outcome (judged r (λ x. element a i (λ y. last))) s) (key_fits of.0.1 i of.2)
      ∙ ap (λ (o : Option Value). outcome (judged (is_there o) (λ y. last)) s) (seen_value s (Element a i))
      ∙ ap (λ r. outcome (judged r (λ y. last)) s) (some_there (get s (Element a i)) there)

  pub set_reads : reads (set a i v) s ≡ element_reads a i
  set_reads =
      let of = element_of s formed a i there in
      ap (λ (o : Option Value). One (Object a) ∷ reads (judged (array_kind o) (λ array. index_fits array.1 i (λ x. element a i (λ y. last)))) s)
      (seen_value s (Object a) ∙ of.1)
      ∙ ap (λ r. One (Object a) ∷ reads (judged r (λ x. element a i (λ y. last))) s) (key_fits of.0.1 i of.2)
      ∙ ap (λ (o : Option Value). One (Object a) ∷ One (Element a i) ∷ reads (judged (is_there o) (λ y. last)) s) (seen_value s (Element a i))
      ∙ ap (λ r. One (Object a) ∷ One (Element a i) ∷ reads (judged r (λ y. last)) s) (some_there (get s (Element a i)) there)

use Rattle.std.proofs.Common.{ℤ, Some, option_map, rules, w64, refl, sym, ap, subst, ◌∙◌}
use Rattle.std.proofs.lemmas.Int.{to_z-of_z}
use Rattle.selective_undo.specs.Changes.{apply}
use Rattle.wb_book.specs.Kept.{element_set}
use Rattle.wb_cells.specs.declared.cells.cell.Cell.TheVariants.{Element}
use Rattle.wb_cells.specs.Cells.{Cells}
use Rattle.wb_cells.specs.WellFormed.{IsWellFormed}
use Rattle.wb_footprints.specs.Footprints.{element_reads}
use Rattle.wb_log.specs.declared.entry.Before.TheVariants.{Number}
use Rattle.wb_log.specs.declared.entry.UndoData.{UndoData}
use Rattle.wb_log.specs.Kept.{footprint}
use Rattle.wb_log.specs.Records.{cell_before}
use Rattle.wb_log.proofs.SetBack.{kept_as}
use Rattle.wb_log.proofs.steps.straight.set_element_back.Goals as goal

pub replace-requires : goal.replace-requires
replace-requires c = rw c.element-element.ensures (λ there.
    let x = c.args.change.now in
    let s : Cells = c.args.book.now.cells in
    let was : ℤ = c.in-Number.was in
    let q : UndoData = record { footprint = element_reads x.array x.place; inverse = cell_before (Element x.array x.place) (Number was) } in
    subst (λ (w : ℤ). IsWellFormed (apply (element_set x.array x.place w) s)) (sym (to_z-of_z w64 was (search rules)))
    (c.requires.well_formed q (kept_as (element_reads x.array x.place) (Element x.array x.place) x.was was c.in-Number.is)))

pub returns-in-Some-clause-ok : goal.returns-in-Some-clause-ok
returns-in-Some-clause-ok c = λ _.
    let x = c.args.change.now in
    let s : Cells = c.args.book.now.cells in
    let was : ℤ = c.in-Number.was in
    let q : UndoData = record { footprint = element_reads x.array x.place; inverse = cell_before (Element x.array x.place) (Number was) } in
    let set = to_z-of_z w64 was (search rules) in (
      q,
      kept_as (element_reads x.array x.place) (Element x.array x.place) x.was was c.in-Number.is,
      refl,
      refl,
      (rw c.element-element.ensures at c.in-Some.ensures.cells) ∙ ap (λ (w : ℤ). apply (element_set x.array x.place w) s) set,
      c.in-Some.ensures.writes,
    )

pub returns-in-Some-clause-taken : goal.returns-in-Some-clause-taken
returns-in-Some-clause-taken c = λ _ count footprints h is.
    let x = c.args.change.now in
    let was : ℤ = c.in-Number.was in
    let has = kept_as (element_reads x.array x.place) (Element x.array x.place) x.was was c.in-Number.is in
    let set = to_z-of_z w64 was (search rules) in
    let left = rw c.element-element.ensures at c.set_left_force.ensures in
    left count footprints h (is ∙ ap (option_map (λ k. footprint k.footprint k.inverse)) has ∙
    ap (λ (w : ℤ). Some (footprint (element_reads x.array x.place) (cell_before (Element x.array x.place) (Number w)))) (sym set))

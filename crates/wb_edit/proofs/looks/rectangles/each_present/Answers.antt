use Rattle.std.proofs.Common.{◌≡◌, ◌<◌, length, arith, List, map, Some, is_some, slice_get, sym, ap, ◌∙◌}
use Rattle.std.specs.FinMap.{get}
use Rattle.std.specs.List.{list_all}
use Rattle.wb_cells.specs.Shapes.{indices}
use Rattle.wb_cells.specs.declared.cells.cell.Cell.TheVariants.{Element}
use Rattle.wb_cells.specs.declared.values.index.Index.{Index}
use Rattle.wb_edit.proofs.IndexedRows.{nothing_there}
use Rattle.wb_edit.proofs.Rectangles.{whole, all_more}
use Rattle.wb_edit.proofs.looks.rectangles.each_present.Goals.{in-Some, in-None}
use Rattle.wb_edit.proofs.looks.rectangles.each_present.Goals as goal

pub loop-p-preserved : goal.loop-p-preserved
loop-p-preserved c =
    let is : List Index = indices c.args.on.now in
    let s = c.args.book.now.cells in
    let a = c.args.array in
    elim c.match-nth.branch [
      | in-Some w ↦
          let i : Index = w.in-Some.index in
          let here : slice_get is c.loop-p.p ≡ Some i = sym c.nth.ensures ∙ w.in-Some.is in
          w.all-is ∙ w.both_answers-all.ensures ∙ rw (w.has_element-here.ensures, c.loop-p.invariant) (sym (all_more (Element a) is c.loop-p.p i here s))
      | in-None w ↦
          let low : c.loop-p.p < length is = omega (arith, c.size-p-end.ensures.count) in
          absurd (nothing_there is c.loop-p.p low (sym c.nth.ensures ∙ w.in-None.is))
    ]

pub returns : goal.returns
returns c =
    let is : List Index = indices c.args.on.now in
    c.loop-p.invariant ∙ ap (λ js. list_all is_some (map (get c.args.book.now.cells) (map (Element c.args.array) js)))
    (whole is c.loop-p.p (omega (arith, c.size-p-end.ensures.count, c.loop-p-test.false)))

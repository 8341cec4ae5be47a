use Rattle.std.proofs.Common.{◌<◌, Some, None, take, length, SFits, w64, rules, arith, sym, ◌∙◌}
use Rattle.std.proofs.lemmas.Int.{to_z-of_z}
use Rattle.std.proofs.lemmas.List.{append-nil}
use Rattle.wb_cells.specs.Shapes.{indices}
use Rattle.wb_text.specs.Lines.{element_at, elements_at}
use Rattle.wb_reading.proofs.Placewise.{more_at}
use Rattle.wb_reading.proofs.books.elements_over.Goals as goal
use Rattle.wb_reading.proofs.books.elements_over.Goals.{in-Some+in_ok-push, in_default}

pub loop-p-preserved : goal.loop-p-preserved
loop-p-preserved c =
    let h = element_at c.args.book.now.cells c.args.array.now in
    let is = indices c.args.ranges.now in
    let below : c.loop-p.p < length is = omega (arith, c.size-p-end.ensures.count) in
    elim c.match-element_nth.branch [
      | in-Some+in_ok-push w ↦
          let t = more_at h is c.loop-p.p (Some w.in-Some.element) below w.in-Some.ensures in
          let fits : SFits w64 w.in-Some.element = search rules in
          rw (w.elements-is, w.in_ok-push.ensures.items, c.loop-p.invariant, to_z-of_z w64 w.in-Some.element fits) (sym t)
      | in_default w ↦
          let t = more_at h is c.loop-p.p None below w.in_default.ensures in
          let n = append-nil (elements_at c.args.book.now.cells c.args.array.now (take c.loop-p.p is)) in
          rw (w.elements-is, c.loop-p.invariant) (sym (t ∙ n))
    ]

use Rattle.std.proofs.Common.{◌≡◌, ℤ, List, ◌∷◌, [], ◌++◌, sym, ap, ◌∙◌}
use Rattle.wb_cells.specs.declared.cells.cell.Cell.TheVariants.{Implicit}
use Rattle.wb_cells.specs.Cells.{Name}
use Rattle.wb_cells.specs.Reads.{one_of}
use Rattle.wb_edit.proofs.Fills.{reads_more, values_more}
use Rattle.wb_edit.proofs.SideBySide.{pushed}
use Rattle.wb_edit.proofs.looks.resizing.with_implicits.Goals as goal

pub loop-array-preserved : goal.loop-array-preserved
loop-array-preserved c =
    let names : List Name = c.args.arrays.now in
    let k = c.loop-array.array-index in
    let a : Name = c.array-item.result in
    let s = c.args.book.now.cells in
    let found : List (Name × ℤ) = c.loop-array.found.items in
    let more : List (Name × ℤ) = c.push.new.self.items in
    let grown : more ≡ found ++ c.in_ok-fill.fill ∷ [] = pushed c.push.result found more c.in_ok-fill.fill (sym c.is_err.ensures.value ∙ c.if-is_err.false)
    c.push.ensures.items in
    record {
      read = c.in_ok-fill.ensures.read ∙ ap (λ rs. rs ++ one_of (Implicit a) ∷ []) c.loop-array.invariant.read ∙
          sym (reads_more names k a c.loop-array-test.true c.array-item.is c.args.footprint.now);
      values = grown ∙ rw (c.in_ok-fill.ensures.value, c.loop-array.invariant.values) (sym (values_more names k a c.loop-array-test.true c.array-item.is s));
    }

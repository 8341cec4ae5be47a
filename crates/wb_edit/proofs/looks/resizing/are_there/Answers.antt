use Rattle.std.proofs.Common.{◌≡◌, List, ◌∷◌, [], ◌++◌, Some, slice_get, sym, ap, ◌∙◌}
use Rattle.std.proofs.lemmas.Option.{slice_get-get_or}
use Rattle.wb_cells.specs.declared.values.index.Index.{Index}
use Rattle.wb_cells.specs.Runs.{cell_of}
use Rattle.wb_cells.specs.Reads.{one_of}
use Rattle.wb_edit.proofs.Rectangles.{reads_more, all_more}
use Rattle.wb_edit.proofs.looks.resizing.are_there.Goals as goal

pub loop-index-preserved : goal.loop-index-preserved
loop-index-preserved c =
    let is : List Index = c.args.listed.now in
    let p = c.loop-index.index-index in
    let i : Index = c.index-item.result in
    let f = cell_of c.args.row.now in
    let s = c.args.book.now.cells in
    let here : slice_get is p ≡ Some i = slice_get-get_or is p i c.loop-index-test.true ∙ ap Some (sym c.index-item.is) in
    record {
      read = c.in_ok-here.ensures.read ∙ rw c.cell.ensures (ap (λ rs. rs ++ one_of (f i) ∷ []) c.loop-index.invariant.read) ∙
          sym (reads_more f is p i here c.args.footprint.now);
      there = c.both_answers-all.ensures ∙ rw (c.in_ok-here.ensures.present, c.cell.ensures, c.loop-index.invariant.there) (sym (all_more f is p i here s));
    }

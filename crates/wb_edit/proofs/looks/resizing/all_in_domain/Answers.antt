use Rattle.std.proofs.Common.{List, map, ◌++◌}
use Rattle.std.specs.FinMap.{get}
use Rattle.wb_cells.specs.declared.cells.cell.Cell.{Cell}
use Rattle.wb_cells.specs.declared.changes.row.IndexedRow.TheVariants.{Inside}
use Rattle.wb_cells.specs.Runs.{cell_of}
use Rattle.wb_cells.specs.Reads.{one_of}
use Rattle.wb_edit.specs.Rectangles.{read_all}
use Rattle.wb_edit.specs.Resizing.{all_inside}
use Rattle.wb_edit.proofs.Rectangles.{gives_all}
use Rattle.wb_edit.proofs.Trees.{then_judged}
use Rattle.wb_edit.proofs.looks.resizing.all_in_domain.Goals as goal

pub returns : goal.returns
returns c =
    let s = c.args.book.now.cells in
    let rs = c.args.footprint.now in
    let cs : List Cell = map (cell_of (Inside c.args.parent)) c.args.listed.now in
    rw (c.or_refused.ensures, c.inside_if.ensures, c.in_ok-all.ensures.there, c.in_ok-all.ensures.read)
    (then_judged (read_all cs) s rs (rs ++ map one_of cs) all_inside (map (get s) cs) (gives_all s cs rs))

use Rattle.std.proofs.Common.{List, map, ◌++◌}
use Rattle.std.specs.FinMap.{get}
use Rattle.wb_cells.specs.Shapes.{indices}
use Rattle.wb_cells.specs.declared.cells.cell.Cell.{Cell}
use Rattle.wb_cells.specs.declared.cells.cell.Cell.TheVariants.{Element}
use Rattle.wb_cells.specs.Reads.{one_of}
use Rattle.wb_edit.specs.Rectangles.{read_all, all_there}
use Rattle.wb_edit.proofs.Rectangles.{gives_all}
use Rattle.wb_edit.proofs.Trees.{then_judged}
use Rattle.wb_edit.proofs.looks.rectangles.all_elements.Goals as goal

pub returns : goal.returns
returns c =
    let s = c.args.book.now.cells in
    let rs = c.args.footprint.now in
    let cs : List Cell = map (Element c.args.array) (indices c.args.on.now) in
    rw (c.or_refused.ensures, c.there_if.ensures, c.in_ok-all.ensures.present, c.in_ok-all.ensures.read)
    (then_judged (read_all cs) s rs (rs ++ map one_of cs) all_there (map (get s) cs) (gives_all s cs rs))

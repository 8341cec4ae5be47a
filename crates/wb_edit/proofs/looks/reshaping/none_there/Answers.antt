use Rattle.std.proofs.Common.{List, map, ◌++◌}
use Rattle.std.specs.FinMap.{get}
use Rattle.wb_cells.specs.declared.cells.cell.Cell.{Cell}
use Rattle.wb_cells.specs.Reads.{one_of}
use Rattle.wb_edit.specs.Rectangles.{read_all}
use Rattle.wb_edit.specs.Reshaping.{member_cells, none_present}
use Rattle.wb_edit.proofs.Rectangles.{gives_all}
use Rattle.wb_edit.proofs.Trees.{then_judged}
use Rattle.wb_edit.proofs.looks.reshaping.none_there.Goals as goal

pub returns : goal.returns
returns c =
    let s = c.args.book.now.cells in
    let rs = c.args.footprint.now in
    let cs : List Cell = member_cells c.args.domains.now c.args.listed.now in
    rw (c.or_refused.ensures, c.absent_if.ensures, c.in_ok-any.ensures.there, c.in_ok-any.ensures.read)
    (then_judged (read_all cs) s rs (rs ++ map one_of cs) none_present (map (get s) cs) (gives_all s cs rs))

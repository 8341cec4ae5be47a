use Rattle.std.proofs.Common.{[], ◌∷◌, ◌+◌, Some, None, sym, ap, ◌∙◌}
use Rattle.wb_cells.specs.declared.cells.cell.Cell.{Cell}
use Rattle.wb_cells.specs.declared.cells.cell.Cell.TheVariants.{Element}
use Rattle.wb_footprints.specs.Footprints.{footprint, with_footprint}
use Rattle.wb_log.specs.Indexed.{up_to}
use Rattle.wb_log.specs.Records.{value_before, cell_before}
use Rattle.wb_log.proofs.Entered.{not_0}
use Rattle.wb_log.proofs.Lists.{index_like}
use Rattle.wb_log.proofs.SetBack.{there, left}
use Rattle.wb_log.proofs.index.by_footprint.ByFootprint.set_left_force.Goals as goal

pub returns-then-at-self : goal.returns-then-at-self
returns-then-at-self c = λ count footprints h had.
    let n = c.args.at + 1 in
    let e = c.args.self.now.entered in
    let v = value_before c.args.was.now in
    let gone = c.take_set.ensures (up_to e footprints) v h.index (there e c.args.at footprints _ c.if-at-self.true had) in
    record {
      from_1 = not_0 c.args.at footprints None h.from_1;
      within = h.within;
      index = index_like c.take_set.new.self (with_footprint (up_to e footprints) n None) (up_to e (with_footprint footprints n None)) (left e n footprints) gone;
    }

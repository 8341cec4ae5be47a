use Rattle.wb_cells.specs.declared.cells.cell.Cell.TheVariants.{Element}
use Rattle.wb_footprints.specs.Footprints.{footprint, element_reads}
use Rattle.wb_log.specs.Records.{cell_before}
use Rattle.wb_log.proofs.index.EditIndex.set_back_in_force.Goals as goal

pub returns : goal.returns
returns c = λ was count footprints h none.
    let x = c.args.element.now in
    record {
      by_footprint = c.set_back_in_force.ensures was count footprints h.by_footprint none;
      in_force =
          c.back_in_force.ensures count footprints (footprint (element_reads x.array x.place) (cell_before (Element x.array x.place) was)) h.in_force;
    }

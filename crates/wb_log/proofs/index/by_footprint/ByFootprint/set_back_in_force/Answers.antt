use Rattle.std.proofs.Common.{[], ◌∷◌, ◌+◌, Some, None, sym, ap, subst, ◌∙◌}
use Rattle.wb_cells.specs.declared.cells.cell.Cell.{Cell}
use Rattle.wb_cells.specs.declared.cells.cell.Cell.TheVariants.{Element}
use Rattle.wb_footprints.specs.Footprints.{IsIndexOf, footprint, with_footprint, element_reads}
use Rattle.wb_footprints.proofs.Taking.{on_ok}
use Rattle.wb_log.specs.Indexed.{up_to}
use Rattle.wb_log.specs.Records.{value_before, cell_before}
use Rattle.wb_log.proofs.Entered.{not_0}
use Rattle.wb_log.proofs.Lists.{index_like}
use Rattle.wb_log.proofs.SetAgain.{comes, stays_out}
use Rattle.wb_log.proofs.SetBack.{there}
use Rattle.wb_log.proofs.index.by_footprint.ByFootprint.set_back_in_force.Goals as goal

pub returns-then-at-self : goal.returns-then-at-self
returns-then-at-self c = λ was count footprints h none.
    let x = c.args.element.now in
    let at = c.args.at in
    let self = c.args.self.now in
    let o = Some (footprint (element_reads x.array x.place) (cell_before (Element x.array x.place) was)) in
    record {
      from_1 = not_0 at footprints o h.from_1;
      within = h.within;
      index = index_like self.index (up_to self.entered footprints) (up_to self.entered (with_footprint footprints (at + 1) o))
          (λ n. stays_out self.entered at footprints o n c.if-at-self.true) h.index;
    }

pub returns-then-is_err : goal.returns-then-is_err
returns-then-is_err c = λ was count footprints h none.
    let x = c.args.element.now in
    let o = Some (footprint (element_reads x.array x.place) (cell_before (Element x.array x.place) was)) in
    c.new.ensures count (with_footprint footprints (c.args.at + 1) o) (not_0 c.args.at footprints o h.from_1)

pub returns-else-is_err : goal.returns-else-is_err
returns-else-is_err c = λ was count footprints h none.
    let x = c.args.element.now in
    let at = c.args.at in
    let n = at + 1 in
    let e = c.args.self.now.entered in
    let v = value_before was in
    let place : Cell = Element x.array x.place in
    let o = Some (footprint (element_reads x.array x.place) (cell_before place was)) in
    let added = on_ok c.add_set.result (sym c.is_err.ensures.value ∙ c.if-is_err.false) c.add_set.ensures.ok in
    let now = added (up_to e footprints) v h.index (there e at footprints None c.if-at-self.false none) in
    record {
      from_1 = not_0 at footprints o h.from_1;
      within = h.within;
      index = index_like c.add_set.new.self (with_footprint (up_to e footprints) n o) (up_to e (with_footprint footprints n o))
          (λ m. comes e at footprints o m c.if-at-self.false) now;
    }

use Rattle.std.proofs.Common.{◌≡◌, Some, option_map, sym, ap, ◌∙◌}
use Rattle.wb_cells.specs.Cells.{Changes}
use Rattle.wb_log.specs.Kept.{footprint, kept_in}
use Rattle.wb_log.specs.Records.{fill_reads, filled_cell, cell_before, before_in, one_kept, shown}
use Rattle.wb_log.proofs.entry.EditRecord.kept.Goals as goal

pub returns-in-Some-before-4 : goal.returns-in-Some-before-4
returns-in-Some-before-4 c =
    let x = c.in-Fill.filled.value in
    let was = c.in-Some-before-4.was in
    let rs = fill_reads x.array x.on in
    let cell = filled_cell x.array x.on in
    let reads : c.reads-in-Some-before-4.result ≡ rs = c.reads-in-Some-before-4.ensures ∙ ap (λ y. fill_reads y.array y.on) c.deref-in-Some-before-4.ensures in
    let is_cell : c.cell-in-Some-before-4.result ≡ cell = c.cell-in-Some-before-4.ensures ∙ ap (λ y. filled_cell y.array y.on) c.deref-in-Some-before-4-2.ensures in
    let back : c.set_back-in-Some-before-4.result ≡ cell_before cell was = c.set_back-in-Some-before-4.ensures ∙ ap (λ d. cell_before d was) is_cell in
    let held : before_in x.was ≡ Some was = sym (c.before-in-Fill.ensures ∙ ap (λ y. before_in y.was) c.deref-in-Fill.ensures) ∙ c.in-Some-before-4.is in
    ap (λ r. Some (footprint r c.set_back-in-Some-before-4.result)) reads ∙ ap (λ (b : Changes). Some (footprint rs b)) back ∙
    sym (ap kept_in (sym c.self.view_is ∙ ap shown c.in-Fill.is) ∙ ap (λ o. option_map (λ k. footprint k.footprint k.inverse) (one_kept rs cell o)) held)

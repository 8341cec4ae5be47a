use Rattle.std.proofs.Common.{List, ℤ, ap, ◌∙◌}
use Rattle.wb_cells.specs.declared.changes.row.IndexedRow.{IndexedRow}
use Rattle.wb_cells.specs.declared.changes.row.IndexedRow.TheVariants.{Elements}
use Rattle.wb_cells.specs.Runs.{packed_changes, numbered_entries}
use Rattle.wb_book.proofs.Told.{numbers_told}
use Rattle.wb_book.proofs.after.known_before.Goals as goal

pub returns-in-Ok : goal.returns-in-Ok
returns-in-Ok c = λ stored element n same.
    let a = c.args.array.now in
    let rs = c.args.ranges.now in
    let made = c.new in
    ap (λ (r : IndexedRow). packed_changes r (numbered_entries made.result.ranges made.result.numbers.items)) made.ensures.row
    ∙ ap (λ (qs : List (List ℤ)). packed_changes (Elements a) (numbered_entries qs made.result.numbers.items)) made.ensures.ranges
    ∙ ap (λ (ns : List ℤ). packed_changes (Elements a) (numbered_entries rs ns)) (made.ensures.numbers ∙ c.in-Ok.ensures)
    ∙ numbers_told stored element a n c.args.elements.now.0 rs c.has_ranges.ensures.ascending (c.has_ranges.ensures.same c.if-not-has_ranges.false) same

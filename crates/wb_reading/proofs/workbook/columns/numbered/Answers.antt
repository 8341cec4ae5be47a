use Rattle.std.proofs.Common.{◌≡◌}
use Rattle.wb_cells.specs.declared.values.index.Index.TheVariants.{Point}
use Rattle.wb_cells.specs.Runs.{numbered_entries}
use Rattle.wb_book.specs.Piecewise.Changed.{all_set}
use Rattle.wb_elements.specs.Piecewise.Marked.{as_changes}
use Rattle.wb_reading.proofs.Placewise.{stands}
use Rattle.wb_reading.proofs.workbook.columns.numbered.Goals as goal

pub returns-in-Ok-Some-clause-elements : goal.returns-in-Ok-Some-clause-elements
returns-in-Ok-Some-clause-elements c =
    let es = c.in-Ok-Some.made.0 in
    let set : all_set es ≡ as_changes Point (numbered_entries c.new-block.result.ranges c.new-block.result.numbers.items) =
    rw c.in-Ok-Some.field-0-is at c.in-Ok-Some.ensures.elements in
    let are : all_set es ≡ as_changes Point (numbered_entries c.args.ranges.now c.args.numbers.now) =
    cc (set, c.new-block.ensures.ranges, c.new-block.ensures.numbers, c.in_ok-listed.ensures) in
    λ i. stands es c.args.ranges.now c.args.numbers.now c.len-ascending.ensures.ascending are i

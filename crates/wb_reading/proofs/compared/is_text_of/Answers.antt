use Rattle.std.proofs.Common.{codes, sym, ◌∙◌}
use Rattle.std.specs.List.{flat_map}
use Rattle.wb_cells.specs.Readers.{objects}
use Rattle.wb_text.specs.Lines.{object_line}
use Rattle.wb_reading.proofs.Fronts.{ends_so, ends_not}
use Rattle.wb_reading.proofs.compared.is_text_of.Goals as goal

pub returns-in-Some : goal.returns-in-Some
returns-in-Some c =
    let lines = flat_map (object_line c.args.book.now.cells) (objects c.args.book.now.cells) in
    let begun = rw c.in-Some.is at c.in_ok-rest.ensures.some in
    ends_so (codes "chapel-workbook 1\n") lines (codes "end\n") c.args.text.now c.in-Some.rest.now c.is_end.result
    (sym c.as_bytes.ensures.value ∙ begun) c.is_end.ensures

pub returns-in-None : goal.returns-in-None
returns-in-None c =
    let lines = flat_map (object_line c.args.book.now.cells) (objects c.args.book.now.cells) in
    let none = rw c.in-None.is at c.in_ok-rest.ensures.none in
    ends_not (codes "chapel-workbook 1\n") lines (codes "end\n") c.args.text.now (λ rest is. none rest (c.as_bytes.ensures.value ∙ is))

use Rattle.std.proofs.Common.{◌∙◌}
use Rattle.wb_reading.proofs.read_text.Goals as goal

pub new-requires : goal.new-requires
new-requires c = record {
  workbook = c.in_ok-book.book.cells;
  well_formed = c.writes-well_formed.ensures.kept;
  spelled = c.in-Ok.ensures.ok ∙
      c.in_ok-book.ensures.ok;
}

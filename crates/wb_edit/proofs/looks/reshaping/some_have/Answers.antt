use Rattle.std.proofs.Common.{List, ◌++◌, map, sym, ap, ◌∙◌}
use Rattle.wb_cells.specs.declared.cells.cell.Cell.TheVariants.{Member}
use Rattle.wb_cells.specs.declared.values.index.Index.{Index}
use Rattle.wb_cells.specs.Cells.{Name}
use Rattle.wb_cells.specs.Reads.{one_of}
use Rattle.wb_edit.proofs.Absences.{reads_more, any_more}
use Rattle.wb_edit.proofs.looks.reshaping.some_have.Goals as goal

pub loop-domain-preserved : goal.loop-domain-preserved
loop-domain-preserved c =
    let names : List Name = c.args.domains.now in
    let is : List Index = c.args.listed.now in
    let k = c.loop-domain.domain-index in
    let e : Name = c.domain-item.result in
    let s = c.args.book.now.cells in
    record {
      read = c.in_ok-here.ensures.read ∙ ap (λ rs. rs ++ map one_of (map (Member e) is)) c.loop-domain.invariant.read ∙
          sym (reads_more names is k e c.loop-domain-test.true c.domain-item.is c.args.footprint.now);
      there = c.either_answer-any.ensures ∙ rw (c.in_ok-here.ensures.there, c.loop-domain.invariant.there)
          (sym (any_more names is k e c.loop-domain-test.true c.domain-item.is s));
    }

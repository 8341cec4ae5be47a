use Rattle.std.proofs.Common.{◌≡◌, List, ◌∷◌, [], ◌++◌, map, arith, Some, slice_get, sym, ap, ◌∙◌}
use Rattle.std.proofs.lemmas.Option.{slice_get-get_or}
use Rattle.wb_cells.specs.declared.cells.cell.Cell.TheVariants.{Member}
use Rattle.wb_cells.specs.declared.values.index.Index.{Index}
use Rattle.wb_cells.specs.Reads.{one_of}
use Rattle.wb_edit.proofs.Rectangles.{whole, reads_more, any_more}
use Rattle.wb_edit.proofs.looks.reshaping.has_some.Goals as goal

pub loop-index-preserved : goal.loop-index-preserved
loop-index-preserved c =
    let is : List Index = c.args.listed.now in
    let p = c.loop-index.index-index in
    let i : Index = c.index-item.result in
    let f = Member c.args.domain in
    let s = c.args.book.now.cells in
    let here : slice_get is p ≡ Some i = slice_get-get_or is p i c.loop-index-test.true ∙ ap Some (sym c.index-item.is) in
    record {
      read = c.in_ok-here.ensures.read ∙ ap (λ rs. rs ++ one_of (f i) ∷ []) c.loop-index.invariant.read ∙ sym (reads_more f is p i here c.args.footprint.now);
      there = c.either_answer-any.ensures ∙ rw (c.in_ok-here.ensures.present, c.loop-index.invariant.there) (sym (any_more f is p i here s));
    }

pub returns-clause-read : goal.returns-clause-read
returns-clause-read c =
    let is : List Index = c.args.listed.now in
    c.loop-index.invariant.read ∙ ap (λ (js : List Index). c.args.footprint.now ++ map one_of (map (Member c.args.domain) js))
    (whole is c.loop-index.index-index (omega (arith, c.loop-index-test.false)))

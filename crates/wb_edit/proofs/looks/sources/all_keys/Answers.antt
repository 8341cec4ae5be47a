use Rattle.std.proofs.Common.{◌≡◌, List, Some, slice_get, arith, sym, ap, ◌∙◌}
use Rattle.std.proofs.lemmas.Option.{slice_get-get_or}
use Rattle.std.specs.List.{list_all}
use Rattle.wb_cells.specs.declared.values.index.Index.{Index}
use Rattle.wb_cells.specs.Kinds.{is_key}
use Rattle.wb_edit.proofs.Rectangles.{whole, each_more}
use Rattle.wb_edit.proofs.looks.sources.all_keys.Goals as goal

pub loop-index-preserved : goal.loop-index-preserved
loop-index-preserved c =
    let is : List Index = c.args.listed.now in
    let p = c.loop-index.index-index in
    let i : Index = c.index-item.result in
    let here : slice_get is p ≡ Some i = slice_get-get_or is p i c.loop-index-test.true ∙ ap Some (sym c.index-item.is) in
    c.both_answers-all.ensures ∙ rw (c.is_key.ensures, c.index.ensures, c.loop-index.invariant) (sym (each_more (is_key c.args.kind) is p i here))

pub returns : goal.returns
returns c =
    let is : List Index = c.args.listed.now in
    c.loop-index.invariant ∙ ap (λ (js : List Index). list_all (is_key c.args.kind) js)
    (whole is c.loop-index.index-index (omega (arith, c.loop-index-test.false)))

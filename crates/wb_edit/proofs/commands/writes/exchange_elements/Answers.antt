use Rattle.std.proofs.Common.{◌≡◌, ℤ, List, ◌++◌, take, sym, ap, subst, ◌∙◌, append_assoc, false}
use Rattle.selective_undo.specs.Changes.{changes}
use Rattle.wb_cells.specs.declared.cells.cell.Cell.TheVariants.{Element}
use Rattle.wb_cells.specs.declared.cells.value.Value.TheVariants.{Number}
use Rattle.wb_cells.specs.declared.values.index.Index.{Index}
use Rattle.wb_cells.specs.Cells.{Name, Changes, cell_cmp}
use Rattle.wb_reshape.specs.Resized.{exchanged, elements_exchanged}
use Rattle.wb_edit.proofs.Exchanges.{next_array, elements_more}
use Rattle.wb_edit.proofs.commands.writes.exchange_elements.Goals as goal

pub exchange-requires-clause-new : goal.exchange-requires-clause-new
exchange-requires-clause-new c = λ i.
    let fs : List (Name × ℤ) = c.args.fills.now in
    let ls : List Index = c.args.leaving.now in
    let cs : List Index = c.args.coming.now in
    let k = c.loop-fill.fill-index in
    let f : Name × ℤ = c.fill-item.result in
    let new = next_array ls cs c.args.delta.now fs k f c.requires.new c.requires.once c.loop-fill-test.true i in
    rw c.loop-fill.invariant (subst (λ (x : Name × ℤ). changes cell_cmp (c.args.delta.now ++ elements_exchanged (take k fs) ls cs) (Element x.0 i) ≡ false)
    (sym c.fill-item.is) new)

pub loop-fill-preserved : goal.loop-fill-preserved
loop-fill-preserved c =
    let fs : List (Name × ℤ) = c.args.fills.now in
    let ls : List Index = c.args.leaving.now in
    let cs : List Index = c.args.coming.now in
    let k = c.loop-fill.fill-index in
    let f : Name × ℤ = c.fill-item.result in
    let old : Changes = c.args.delta.now in
    let before : Changes = elements_exchanged (take k fs) ls cs in
    c.in_ok-exchange.ensures.ok ∙ rw (c.number_of.ensures, c.loop-fill.invariant) (
    append_assoc old before (exchanged (Element f.0) ls cs (Number f.1))
    ∙ ap (λ (x : Name × ℤ). old ++ (before ++ exchanged (Element x.0) ls cs (Number x.1))) c.fill-item.is
    ∙ ap (λ xs. old ++ xs) (sym (elements_more ls cs fs k f c.loop-fill-test.true)))

use Rattle.std.proofs.Common.{◌++◌, ap, append_assoc, ◌∙◌}
use Rattle.std.proofs.lemmas.Result.{on_ok_weaker}
use Rattle.wb_cells.specs.declared.cells.value.Value.TheVariants.{Present}
use Rattle.wb_cells.specs.Runs.{cell_of}
use Rattle.wb_cells.specs.WellFormed.{index_cell}
use Rattle.wb_reshape.specs.Resized.{exchanged, elements_exchanged}
use Rattle.wb_edit.proofs.Exchanges.{elements_are_new, same_exchanged}
use Rattle.wb_edit.proofs.commands.writes.resize.Goals as goal

pub exchange-requires-clause-new : goal.exchange-requires-clause-new
exchange-requires-clause-new c = λ i. rw (c.membership.ensures i) (c.requires.members i)

pub exchange_elements-requires-clause-new : goal.exchange_elements-requires-clause-new
exchange_elements-requires-clause-new c = λ a i.
    let d = c.args.domain.now in
    let same = same_exchanged (cell_of c.membership.result) (index_cell d.kind d.name) c.membership.ensures c.args.leaving.now c.args.coming.now Present in
    rw (c.in_ok-exchange.ensures.ok, same) (elements_are_new c.args.leaving.now c.args.coming.now d.kind d.name c.args.delta.now c.requires.elements a i)

pub returns-clause-ok : goal.returns-clause-ok
returns-clause-ok c =
    let d = c.args.domain.now in
    let old = c.args.delta.now in
    let leaving = c.args.leaving.now in
    let coming = c.args.coming.now in
    let indices = exchanged (index_cell d.kind d.name) leaving coming Present in
    let elements = elements_exchanged c.args.fills.now leaving coming in
    let same = same_exchanged (cell_of c.membership.result) (index_cell d.kind d.name) c.membership.ensures leaving coming Present in
    on_ok_weaker c.exchange_elements.result
    (λ h. h ∙ ap (λ xs. xs ++ elements) (c.in_ok-exchange.ensures.ok ∙ ap (λ xs. old ++ xs) same) ∙ append_assoc old indices elements)
    c.exchange_elements.ensures.ok

use Rattle.std.proofs.Common.{refl, ◌∙◌}
use Rattle.wb_cells.specs.Runs.{cell_of}
use Rattle.wb_cells.specs.WellFormed.{index_cell}
use Rattle.wb_edit.specs.Plans.{indices_in}
use Rattle.wb_edit.proofs.Exchanges.{own_apart, same_cells}
use Rattle.wb_edit.proofs.commands.drop_domain.drop_changes.Goals as goal

pub become_found-requires-clause-new : goal.become_found-requires-clause-new
become_found-requires-clause-new c = λ i. rw (c.in_ok-delta.ensures, c.membership-indices.ensures i, c.kind.ensures) (own_apart c.args.kind.now c.args.domain i)

pub returns : goal.returns
returns c =
    let is = indices_in c.args.found.now in
    let kind = c.kind.result in
    let same = same_cells (cell_of c.membership-indices.result) (index_cell kind c.args.domain) c.membership-indices.ensures is in
    c.in_ok-become_found.ensures.ok ∙ rw (c.in_ok-delta.ensures, same, c.kind.ensures) refl

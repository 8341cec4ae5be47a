use Rattle.std.proofs.Common.{sym, ◌∙◌}
use Rattle.wb_cells.specs.MemberSets.{listed, is_of_form}
use Rattle.wb_cells.proofs.MemberSets.{has_none, anyway}
use Rattle.wb_cells.proofs.book.member_set.MemberSet.put.Goals as goal

pub returns-in_err-self-inside-clause-absent : goal.returns-in_err-self-inside-clause-absent
returns-in_err-self-inside-clause-absent c = anyway c.from_residual.result _ (rw (← c.self.view_is)
    (has_none (is_of_form c.self.inside.form) (listed c.self.inside.form) c.args.index.now c.self.invariant (sym c.fits.ensures ∙ c.if-fits.false)))

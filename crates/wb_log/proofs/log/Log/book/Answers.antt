use Rattle.std.proofs.Common.{ap, ◌∙◌, subst}
use Rattle.selective_undo.specs.History.{replay, IsLegal}
use Rattle.wb_log.specs.Past.{meant}
use Rattle.wb_log.proofs.Entries.{history-log}
use Rattle.wb_log.proofs.Valid.{well_formed}
use Rattle.wb_log.proofs.log.Log.book.Goals as goal

pub returns-clause-cells : goal.returns-clause-cells
returns-clause-cells c = c.self.invariant.shows.shown ∙ ap replay (history-log c.self.inside.entries.items) ∙ ap (λ p. replay (meant p.entries)) c.self.view_is

pub returns-clause-legal : goal.returns-clause-legal
returns-clause-legal c =
    subst (λ p. IsLegal (meant p.entries)) c.self.view_is (subst IsLegal (history-log c.self.inside.entries.items) c.self.invariant.shows.legal)

pub returns-clause-formed : goal.returns-clause-formed
returns-clause-formed c = well_formed c.self.inside.entries.items c.self.inside.book.cells c.self.invariant.shows c.self.invariant.valid

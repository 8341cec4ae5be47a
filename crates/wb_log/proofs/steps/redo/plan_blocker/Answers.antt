use Rattle.std.proofs.Common.{◌++◌, sym, ap, ◌∙◌}
use Rattle.wb_log.specs.Kept.{redo_blocker}
use Rattle.wb_log.proofs.steps.redo.plan_blocker.Goals as goal

pub returns-clause-first : goal.returns-clause-first
returns-clause-first c =
    c.first_to_block_redo.ensures.first ∙ ap (λ rs. redo_blocker c.args.entries.now c.args.at rs c.changes.result.now) (sym c.parts.ensures) ∙
    ap (redo_blocker c.args.entries.now c.args.at c.args.footprint.now) c.changes.ensures.same

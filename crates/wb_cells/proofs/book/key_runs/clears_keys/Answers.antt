use Rattle.std.proofs.Common.{ap, ◌∙◌}
use Rattle.wb_cells.specs.declared.changes.row.IndexedRow.TheVariants.{Members}
use Rattle.wb_cells.specs.MemberRuns.{keyed_changes}
use Rattle.wb_cells.proofs.MemberRuns.{cleared_keys}
use Rattle.wb_cells.proofs.book.key_runs.clears_keys.Goals as goal

pub returns : goal.returns
returns g c = λ all d.
    let f = g.K.AsIndex.as_index in
    ap (keyed_changes f (Members d)) (c.are_cleared.ensures all) ∙ cleared_keys f d c.args.keys.now.keys

use Rattle.std.proofs.Common.{length}
use Rattle.std.proofs.lemmas.Option.{slice_get-get_or}
use Rattle.std.proofs.Common.{ap, sym, ◌∙◌, Some}
use Rattle.wb_log.specs.Kept.{by_number}
use Rattle.wb_log.proofs.Entered.{kept_here}
use Rattle.wb_log.proofs.index.by_footprint.ByFootprint.fill.Goals as goal

pub returns-in-Err : goal.returns-in-Err
returns-in-Err c = record { indexed = c.in-Err.ensures.err (length c.args.entries.now) (by_number c.args.entries.now) c.loop-self.invariant }

pub loop-self-preserved : goal.loop-self-preserved
loop-self-preserved c =
    let es = c.args.entries.now in
    let n = c.loop-self.self.entered in
    let x = c.index-entries-self.result in
    let is = slice_get-get_or es n x c.loop-self-test.true ∙ ap Some (sym c.index-entries-self.is) in
    c.in-Ok.ensures.ok (length es) (by_number es) c.loop-self.invariant c.loop-self-test.true (kept_here es n x is)

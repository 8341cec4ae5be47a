use Rattle.std.proofs.Common.{◌≡◌, ◌+◌, ◌++◌, take, ap, sym, ◌∙◌, arith}
use Rattle.wb_cells.specs.declared.changes.run.ChangeRun.{ChangeRun}
use Rattle.wb_cells.specs.Runs.{changes_in, all_changes}
use Rattle.wb_footprints.specs.Footprints.{any_met, met_by}
use Rattle.wb_footprints.proofs.InRuns.{all_more, all_parts}
use Rattle.wb_footprints.proofs.Meeting.{any_first, met_both, soonest}
use Rattle.wb_footprints.proofs.foot_index.FootIndex.met_in_runs.Goals as goal

pub loop-run-preserved : goal.loop-run-preserved
loop-run-preserved c =
    let i = c.loop-run.run-index in
    let rs = c.args.runs.now in
    let r = c.run-item.result in
    let more : all_changes (take (i + 1) rs) ≡ all_changes (take i rs) ++ changes_in r.form =
    all_more (λ (x : ChangeRun). changes_in x.form) rs i r (omega arith) ∙
    ap (λ (x : ChangeRun). all_changes (take i rs) ++ changes_in x.form) (sym c.run-item.is) in
    record {
      least = λ footprints h. met_both footprints c.args.after (all_changes (take i rs)) (changes_in r.form) (all_changes (take (i + 1) rs)) more
          c.earlier-first.result
          (c.earlier-first.ensures.least (λ n. any_met (footprints n) (all_changes (take i rs))) (λ n. any_met (footprints n) (changes_in r.form))
          c.args.after (c.loop-run.invariant.least footprints h) (c.met_in.ensures.least footprints h));
      above = c.earlier-first.ensures.above c.args.after c.loop-run.invariant.above c.met_in.ensures.above;
    }

pub returns-then-is_next-clause-least : goal.returns-then-is_next-clause-least
returns-then-is_next-clause-least c =
    let i = c.loop-run.run-index in
    let rs = c.args.runs.now in
    let r = c.run-item.result in
    let first = c.earlier-first.result in
    let more : all_changes (take (i + 1) rs) ≡ all_changes (take i rs) ++ changes_in r.form =
    all_more (λ (x : ChangeRun). changes_in x.form) rs i r (omega arith) ∙
    ap (λ (x : ChangeRun). all_changes (take i rs) ++ changes_in x.form) (sym c.run-item.is) in
    λ footprints h. soonest (λ n. any_met (footprints n) (all_changes (take (i + 1) rs))) (λ n. any_met (footprints n) (all_changes rs)) c.args.after first
    (c.is_next.ensures c.if-is_next.true)
    (λ n e. any_first (λ x. met_by (footprints n) x.cell) (all_changes (take (i + 1) rs)) _ (all_changes rs)
    (all_parts (λ (x : ChangeRun). changes_in x.form) rs (i + 1)) e)
    (met_both footprints c.args.after (all_changes (take i rs)) (changes_in r.form) (all_changes (take (i + 1) rs)) more first
    (c.earlier-first.ensures.least (λ n. any_met (footprints n) (all_changes (take i rs))) (λ n. any_met (footprints n) (changes_in r.form))
    c.args.after (c.loop-run.invariant.least footprints h) (c.met_in.ensures.least footprints h)))

use Rattle.std.proofs.Common.{◌≡◌, ◌<◌, length, get_or, sym, arith}
use Rattle.std.proofs.lemmas.Option.{get_or_from_slice_get}
use Rattle.wb_footprints.proofs.Through.{run_more}
use Rattle.wb_footprints.proofs.questions.swept.SweptCells.add_run.Goals as goal

pub loop-at-init : goal.loop-at-init
loop-at-init c = λ index waiting after h waits. h

pub loop-at-preserved : goal.loop-at-preserved
loop-at-preserved c = λ index waiting after h waits.
    let run = c.args.run.now in
    let i = c.loop-at.at in
    let p = c.index-index.result in
    let low : i < length run.indices = omega (arith, c.loop-at-test.true, c.len-at-end.ensures) in
    let is : p ≡ get_or run.indices i p = sym (get_or_from_slice_get run.indices i p p c.index-index.ensures) in
    run_more index c.loop-at.self c.add.new.self waiting after run.row run.indices i p c.cell.result
    (c.loop-at.invariant index waiting after h waits) waits low is c.cell.ensures c.in_ok-add.ensures.cells c.in_ok-add.ensures.runs
    c.in_ok-add.ensures.families

use Rattle.std.proofs.Common.{length, refl, ◌∙◌, arith}
use Rattle.std.proofs.lemmas.Option.{slice_get_read}
use Rattle.wb_cells.proofs.Runs.{stands_at}
use Rattle.wb_cells.proofs.changes.list.change_in.Goals as goal

pub overflow_sub-at : goal.overflow_sub-at
overflow_sub-at c =
    let rs = c.args.runs.now in
    let k = c.run_of-number.result in
    let at = slice_get_read rs (length rs) k c.index-runs-number.result refl c.run_of-number.ensures.number c.index-runs-number.is in
    (c.run_of-number.ensures.place c.index-runs-number.result at).0

pub change-requires : goal.change-requires
change-requires c =
    let rs = c.args.runs.now in
    let k = c.run_of-number.result in
    let r = c.index-runs-number.result in
    let has = c.run_of-number.ensures.place r (slice_get_read rs (length rs) k r refl c.run_of-number.ensures.number c.index-runs-number.is) in
    omega (arith, has.0, has.1)

pub returns : goal.returns
returns c =
    let rs = c.args.runs.now in
    let k = c.run_of-number.result in
    let r = c.index-runs-number.result in
    let at = slice_get_read rs (length rs) k r refl c.run_of-number.ensures.number c.index-runs-number.is in
    let has = c.run_of-number.ensures.place r at in
    c.change.ensures ∙ stands_at c.args.before rs k c.args.at r c.change.result c.requires.started at has c.requires.within

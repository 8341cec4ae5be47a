use Rattle.std.proofs.Common.{Some, ap, sym, ◌∙◌}
use Rattle.std.proofs.lemmas.Option.{slice_get-get_or}
use Rattle.wb_log.proofs.Redone.{in_force_reply, stopped_reply, blocked_plan, off_by}
use Rattle.wb_log.proofs.steps.redo.plan_again.Goals as goal

pub returns-then-is_in_force-clause-err : goal.returns-then-is_in_force-clause-err
returns-then-is_in_force-clause-err c =
    let es = c.args.entries.now in
    let x = c.index-entries-at.result in
    let is = slice_get-get_or es c.args.at c.index-entries-at.result c.requires.in_log ∙ ap Some (sym c.index-entries-at.is) in
    in_force_reply c.args.book.now.cells es c.args.at x c.requires.kept is (sym c.is_in_force.ensures ∙ c.if-is_in_force.true)

pub returns-in-Err-clause-err : goal.returns-in-Err-clause-err
returns-in-Err-clause-err c =
    let es = c.args.entries.now in
    let x = c.index-entries-at.result in
    let is = slice_get-get_or es c.args.at c.index-entries-at.result c.requires.in_log ∙ ap Some (sym c.index-entries-at.is) in
    rw c.refusal_in_place.ensures.why (stopped_reply c.args.book.now.cells es c.args.at x c.requires.kept is
    (off_by x.kept c.is_in_force.result c.is_in_force.ensures c.if-is_in_force.false) c.in-Err.stop c.in-Err.ensures)

pub returns-in-Some-clause-err : goal.returns-in-Some-clause-err
returns-in-Some-clause-err c =
    let es = c.args.entries.now in
    let x = c.index-entries-at.result in
    let is = slice_get-get_or es c.args.at c.index-entries-at.result c.requires.in_log ∙ ap Some (sym c.index-entries-at.is) in
    blocked_plan c.args.book.now.cells es c.args.at x c.requires.kept is (off_by x.kept c.is_in_force.result c.is_in_force.ensures c.if-is_in_force.false)
    c.in-Ok.delta c.in-Ok.footprint c.in-Some.by c.in-Ok.ensures.0 c.in-Ok.ensures.1 c.in-Some.ensures.first

pub returns-in-None-clause-ok : goal.returns-in-None-clause-ok
returns-in-None-clause-ok c =
    let es = c.args.entries.now in
    let x = c.index-entries-at.result in
    let is = slice_get-get_or es c.args.at c.index-entries-at.result c.requires.in_log ∙ ap Some (sym c.index-entries-at.is) in (
      x,
      is,
      off_by x.kept c.is_in_force.result c.is_in_force.ensures c.if-is_in_force.false,
      c.in-Ok.ensures.0,
      c.in-Ok.ensures.1,
      c.in-Ok.ensures.2,
      sym c.in-None.ensures.first,
    )

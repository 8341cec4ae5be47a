use Rattle.std.proofs.Common.{Some, ◌-◌, sym, ap, ◌∙◌, arith}
use Rattle.std.proofs.lemmas.Option.{slice_get-get_or}
use Rattle.wb_log.proofs.Bounded.{latest_at_bound}
use Rattle.wb_log.proofs.index.bound.LatestBound.latest.Goals as goal

pub returns-then-is_in_force-clause-latest : goal.returns-then-is_in_force-clause-latest
returns-then-is_in_force-clause-latest c =
    let es = c.args.entries.now in
    let x = c.tell.new.self in
    let at = x.bound - 1 in
    let y = c.index-entries-at.result in
    let h = c.tell.ensures.bound in
    let is = slice_get-get_or es at y (omega (arith, h.told, h.bound)) ∙ ap Some (sym c.index-entries-at.is) in
    latest_at_bound x es h c.tell.ensures.all at y (omega arith) is
    (sym c.is_in_force.ensures ∙ c.if-is_in_force.true)

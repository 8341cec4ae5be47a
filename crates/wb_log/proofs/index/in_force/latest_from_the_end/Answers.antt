use Rattle.std.proofs.Common.{Some, ap, ◌-◌, sym, ◌∙◌, arith}
use Rattle.std.proofs.lemmas.Option.{slice_get-get_or}
use Rattle.wb_log.proofs.Latest.{is_latest, still_none}
use Rattle.wb_log.proofs.index.in_force.latest_from_the_end.Goals as goal

pub returns-then-is_in_force : goal.returns-then-is_in_force
returns-then-is_in_force c =
    let es = c.args.entries.now in
    let p = c.loop-at.at - 1 in
    let x = c.index-entries-at.result in
    let is = slice_get-get_or es p x (omega arith) ∙ ap Some (sym c.index-entries-at.is) in
    is_latest es p x is (sym c.is_in_force.ensures ∙ c.if-is_in_force.true) (λ q g low e. c.loop-at.invariant.none_later q g (omega (arith, low)) e)

pub loop-at-preserved : goal.loop-at-preserved
loop-at-preserved c =
    let es = c.args.entries.now in
    let p = c.loop-at.at - 1 in
    let x = c.index-entries-at.result in
    let is = slice_get-get_or es p x (omega arith) ∙ ap Some (sym c.index-entries-at.is) in
    record {
      within = omega arith;
      none_later = still_none es p x is (sym c.is_in_force.ensures ∙ c.if-is_in_force.false)
          (λ q g low e. c.loop-at.invariant.none_later q g (omega (arith, low)) e);
    }

use Rattle.std.proofs.Common.{◌≡◌, ℕ, ◌+◌, ◌-◌, ◌<◌, Some, None, length, option_map, ap, sym, subst, ◌∙◌, arith}
use Rattle.std.proofs.lemmas.Option.{slice_get-get_or}
use Rattle.wb_log.specs.Kept.{by_number}
use Rattle.wb_log.specs.declared.lent.LentKept.TheVariants.{Filled}
use Rattle.wb_log.specs.Records.{lent_footprint, lent_kept}
use Rattle.wb_log.proofs.Entered.{kept_here}
use Rattle.wb_log.proofs.Sweeps.{none_needs, on_ok_needing}
use Rattle.wb_log.proofs.sweep.wait_for_those.Goals as goal

pub returns-in-None-clause-joined : goal.returns-in-None-clause-joined
returns-in-None-clause-joined c =
    let es = c.args.entries.now in
    let n = c.args.number in
    let low : n - 1 < length es = omega (arith, c.requires.positive, c.requires.in_log) in
    let here : (n - 1) + 1 ≡ n = omega (arith, c.requires.positive) in
    let x = c.index-entries-number.result in
    let is = slice_get-get_or es (n - 1) x low ∙ ap Some (sym c.index-entries-number.is) in
    let off = kept_here es (n - 1) x is ∙ sym c.kept.ensures ∙ ap (option_map lent_kept) c.in-None.is in
    none_needs c.args.waiting.now (by_number es) n (subst (λ (m : ℕ). by_number es m ≡ None) here off)

pub returns-in-Some-Listed-clause-joined : goal.returns-in-Some-Listed-clause-joined
returns-in-Some-Listed-clause-joined c =
    let es = c.args.entries.now in
    let n = c.args.number in
    let low : n - 1 < length es = omega (arith, c.requires.positive, c.requires.in_log) in
    let here : (n - 1) + 1 ≡ n = omega (arith, c.requires.positive) in
    let x = c.index-entries-number.result in
    let is = slice_get-get_or es (n - 1) x low ∙ ap Some (sym c.index-entries-number.is) in
    let f = lent_footprint c.in-Some-Listed.listed in
    let there = subst (λ (m : ℕ). by_number es m ≡ Some f) here
    (kept_here es (n - 1) x is ∙ sym c.kept.ensures ∙ ap (option_map lent_kept) c.in-Some-Listed.is ∙ ap (λ k. Some (lent_kept k)) c.in-Some-Listed.field-0-is) in
    on_ok_needing c.join_blockers.result c.args.index.now c.args.waiting.now c.join_blockers.new.waiting (by_number es) n f c.before-in-Some-Listed.result.now
    there c.before-in-Some-Listed.ensures.same c.requires.indexed c.join_blockers.ensures.joined

pub returns-in-Ok-clause-joined : goal.returns-in-Ok-clause-joined
returns-in-Ok-clause-joined c =
    let es = c.args.entries.now in
    let n = c.args.number in
    let low : n - 1 < length es = omega (arith, c.requires.positive, c.requires.in_log) in
    let here : (n - 1) + 1 ≡ n = omega (arith, c.requires.positive) in
    let x = c.index-entries-number.result in
    let is = slice_get-get_or es (n - 1) x low ∙ ap Some (sym c.index-entries-number.is) in
    let f = lent_kept (Filled c.in-Some-Filled.filled) in
    let there = subst (λ (m : ℕ). by_number es m ≡ Some f) here
    (kept_here es (n - 1) x is ∙ sym c.kept.ensures ∙ ap (option_map lent_kept) c.in-Some-Filled.is ∙ ap (λ k. Some (lent_kept k)) c.in-Some-Filled.field-0-is) in
    on_ok_needing c.join_blockers-in-Ok.result c.args.index.now c.args.waiting.now c.join_blockers-in-Ok.new.waiting (by_number es) n f c.in-Ok.before
    there c.in-Ok.ensures.same c.requires.indexed c.join_blockers-in-Ok.ensures.joined

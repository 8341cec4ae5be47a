use Rattle.std.proofs.Common.{◌≡◌, ap, ◌∙◌, subst, refl, arith}
use Rattle.wb_arrays.specs.Reductions.{of_locales_in_128, AreSmall}
use Rattle.wb_arrays.proofs.Reducing.{whole, small, plain, one_more, one_more_small}
use Rattle.wb_arrays.proofs.reduction.whole.Goals.{in-Some, in_default}
use Rattle.wb_arrays.proofs.reduction.whole.Goals as goal

pub loop-locale-init : goal.loop-locale-init
loop-locale-init g c = record { value = refl; small = λ k l. absurd (omega arith) }

pub loop-locale-preserved : goal.loop-locale-preserved
loop-locale-preserved g c =
    let es = c.args.of.now.0 in
    let locale = g.M.Mapping.locale c.args.of.now.1 in
    let k = c.loop-locale.locale in
    let count : c.locales-locale-end.result ≡ g.M.Mapping.locale_count c.args.of.now.1 = c.locales-locale-end.ensures.count ∙
    ap g.M.Mapping.locale_count c.mapping.ensures.value in
    elim c.match-pairs.branch [
      | in-Some w ↦ let piece = w.in-Some.ensures.cases.1 in record {
        value = one_more locale es k c.args.op c.loop-locale.done w.of_pairs.result c.match-pairs.done w.in-Some.pairs.now c.loop-locale.invariant.value piece
            w.of_pairs.ensures.value (w.done-is ∙ w.joined-done.ensures);
        small = one_more_small locale es k c.loop-locale.invariant.small (subst AreSmall piece w.of_pairs.ensures.small);
      }
      | in_default w ↦ absurd (omega (arith, w.in_default.ensures.cases, c.loop-locale-test.true, count))
    ]

pub returns-clause-value : goal.returns-clause-value
returns-clause-value g c =
    let es = c.args.of.now.0 in
    let locale = g.M.Mapping.locale c.args.of.now.1 in
    let n = g.M.Mapping.locale_count c.args.of.now.1 in
    let count : c.locales-locale-end.result ≡ n = c.locales-locale-end.ensures.count ∙ ap g.M.Mapping.locale_count c.mapping.ensures.value in
    let all : c.loop-locale.locale ≡ n = omega (arith, count, c.loop-locale.auto.locale-end, c.loop-locale-test.false) in
    let each = small locale n es c.mapping.ensures.below (λ k l. c.loop-locale.invariant.small k (omega (arith, all, l))) in
    c.loop-locale.invariant.value ∙ ap (of_locales_in_128 c.args.op locale es) all ∙ whole c.args.op locale n es c.mapping.ensures.below ∙
    plain c.args.op es each (omega (arith, c.len.ensures.count, c.len.type_inv))

pub returns-clause-small : goal.returns-clause-small
returns-clause-small g c =
    let locale = g.M.Mapping.locale c.args.of.now.1 in
    let n = g.M.Mapping.locale_count c.args.of.now.1 in
    let count : c.locales-locale-end.result ≡ n = c.locales-locale-end.ensures.count ∙ ap g.M.Mapping.locale_count c.mapping.ensures.value in
    let all : c.loop-locale.locale ≡ n = omega (arith, count, c.loop-locale.auto.locale-end, c.loop-locale-test.false) in
    small locale n c.args.of.now.0 c.mapping.ensures.below (λ k l. c.loop-locale.invariant.small k (omega (arith, all, l)))

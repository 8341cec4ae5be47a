use Rattle.std.proofs.Common.{rules, ◌≡◌, ◌+◌, ◌-◌, ◌<◌, ◌∷◌, ℤ, drop, to_z, of_z, w64, arith, subst}
use Rattle.wb_arrays.specs.Pieces.{lists_of}
use Rattle.wb_arrays.proofs.Parts.{IsUnderway, put, pass, done}
use Rattle.wb_arrays.proofs.Splits.{drop_at, drop_past}
use Rattle.wb_arrays.proofs.part.distributed.Goals.{then-first-locale+then-place-count+in_ok-push_at, then-first-locale+else-place-count, else-first-locale}
use Rattle.wb_arrays.proofs.part.distributed.Goals as goal

pub loop-index-preserved : goal.loop-index-preserved
loop-index-preserved g c =
    let locale = g.M.Mapping.locale c.args.mapping.now in
    let n = g.M.Mapping.locale_count c.args.mapping.now in
    let first = c.args.first in
    let count = c.args.count in
    let xs = c.args.pairs.now in
    let k = c.loop-index.index-index in
    let ps = lists_of c.loop-index.pieces.items in
    let e : g.row.I.Denot × ℤ = c.loop-index-item.result in
    let rest : drop k xs ≡ e ∷ drop (k + 1) xs = drop_at xs k e c.loop-index-test.true c.loop-index-item.is in
    let before = subst (λ ys. IsUnderway locale n first count xs ys ps) rest c.loop-index.invariant in
    let own = c.locale_of-locale.ensures.value in
    let below : locale e.0 < n = rw (← own) c.locale_of-locale.ensures.below in
    elim c.if-first-locale.branch [
      | then-first-locale+then-place-count+in_ok-push_at w ↦
          (let is : first + (c.locale_of-locale.result - first) ≡ locale e.0 = omega (arith, own, w.if-first-locale.true) in
          let exact : to_z w64 (of_z w64 e.1) ≡ e.1 = search rules in
          rw (w.pieces-is, w.in_ok-push_at.ensures, exact) (put locale n first count xs e (drop (k + 1) xs) ps (c.locale_of-locale.result - first) below is
          w.if-place-count.true before))
      | then-first-locale+else-place-count w ↦
          rw w.pieces-is (pass locale n first count xs e (drop (k + 1) xs) ps below
          (λ j l is. omega (arith, own, w.if-first-locale.true, w.if-place-count.false, l, is)) before)
      | else-first-locale w ↦
          rw w.pieces-is (pass locale n first count xs e (drop (k + 1) xs) ps below (λ j l is. omega (arith, own, w.if-first-locale.false, is)) before)
    ]

pub returns-clause-pieces : goal.returns-clause-pieces
returns-clause-pieces g c =
    let locale = g.M.Mapping.locale c.args.mapping.now in
    let n = g.M.Mapping.locale_count c.args.mapping.now in
    let ps = lists_of c.loop-index.pieces.items in
    let none = drop_past c.args.pairs.now c.loop-index.index-index c.loop-index-test.false in
    let before = subst (λ ys. IsUnderway locale n c.args.first c.args.count c.args.pairs.now ys ps) none c.loop-index.invariant in
    done locale n c.args.first c.args.count c.args.pairs.now ps before

pub returns-clause-below : goal.returns-clause-below
returns-clause-below g c =
    let locale = g.M.Mapping.locale c.args.mapping.now in
    let n = g.M.Mapping.locale_count c.args.mapping.now in
    let ps = lists_of c.loop-index.pieces.items in
    let none = drop_past c.args.pairs.now c.loop-index.index-index c.loop-index-test.false in
    (subst (λ ys. IsUnderway locale n c.args.first c.args.count c.args.pairs.now ys ps) none c.loop-index.invariant).below tt

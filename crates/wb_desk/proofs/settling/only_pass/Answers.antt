use Rattle.std.proofs.Common.{◌≡◌, true, false, sym, ◌∙◌, arith}
use Rattle.std.specs.Prelude.{◌==◌}
use Rattle.std.proofs.lemmas.Bool.Decides.{nat_tests}
use Rattle.wb_desk.proofs.Passes.{second_pass, first_pass, other_pass}
use Rattle.wb_desk.proofs.settling.only_pass.Goals.{then-seat+else-is_some, else-seat}
use Rattle.wb_desk.proofs.settling.only_pass.Goals as goal

pub returns-then-is_some : goal.returns-then-is_some
returns-then-is_some g c =
    let t : (c.index-passes-at.result.seat == c.args.seat) ≡ true = grind (arith, nat_tests) in
    second_pass c.args.passes.now c.args.seat c.loop-at.at c.loop-at.found c.index-passes-at.result c.loop-at-test.true c.index-passes-at.is t
    (sym c.is_some.ensures ∙ c.if-is_some.true) c.loop-at.invariant

pub loop-at-preserved : goal.loop-at-preserved
loop-at-preserved g c =
    elim c.if-seat.branch [
      | then-seat+else-is_some w ↦
          (let t : (c.index-passes-at.result.seat == c.args.seat) ≡ true = grind (arith, nat_tests) in
          rw w.found-is (first_pass c.args.passes.now c.args.seat c.loop-at.at c.loop-at.found c.index-passes-at.result c.loop-at-test.true
          c.index-passes-at.is t (sym w.is_some.ensures ∙ w.if-is_some.false) c.loop-at.invariant))
      | else-seat w ↦
          (let t : (c.index-passes-at.result.seat == c.args.seat) ≡ false = grind (arith, nat_tests) in
          rw w.found-is (other_pass c.args.passes.now c.args.seat c.loop-at.at c.loop-at.found c.index-passes-at.result c.loop-at-test.true
          c.index-passes-at.is t c.loop-at.invariant))
    ]

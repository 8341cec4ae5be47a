use Rattle.std.proofs.Common.{◌≡◌, length, SFits, w64, to_z-of_z, refl, sym, ap, ◌∙◌, subst, arith, rules}
use Rattle.std.specs.List.{Contains}
use Rattle.wb_range.proofs.Steps.{length-steps}
use Rattle.wb_range.proofs.Closed.{IsClosed, IsClosed-steps, same_places, step_first, step_second, step_further, step_passed, step_none}
use Rattle.wb_range.proofs.range.walked_places.Goals as goal
use Rattle.wb_range.proofs.range.walked_places.Goals.{in-Some+then-contains, then-count-eq0, else-count-eq0+then-count-eq1, else-count-eq0+else-count-eq1}
use Rattle.wb_range.proofs.range.walked_places.Goals.{in-Some+else-contains, in_default}

pub loop-p-preserved : goal.loop-p-preserved
loop-p-preserved c =
    let cl : IsClosed c.args.ys.now = subst IsClosed c.ys.view_is (IsClosed-steps _ _ _ c.ys.invariant.nonzero) in
    elim c.match-nth.branch [
      | in-Some+then-contains w ↦
          let f : SFits w64 w.in-Some.i = search rules in
          let m : Contains c.args.ys.now w.in-Some.i = simp to_z-of_z at (w.contains.ensures.0 w.if-contains.true) in
          elim w.if-count-eq0.branch [
            | then-count-eq0 w' ↦
                record {
                  common = same_places _ _ _ _ _ _ _ _ _ _ (w.first-is ∙ w'.first-is) (w.gap-is ∙ w'.gap-is) w.count-is refl
                      (step_first _ _ _ _ _ _ _ w'.if-count-eq0.true c.loop-p.invariant.common w.in-Some.ensures m);
                  few = omega (arith, w.count-is, c.loop-p.invariant.few);
                }
            | else-count-eq0+then-count-eq1 w' ↦
                record {
                  common = same_places _ _ _ _ _ _ _ _ _ _ (w.first-is ∙ w'.first-is) (w.gap-is ∙ w'.gap-is) w.count-is refl
                      (step_second _ _ _ _ _ _ _ w'.if-count-eq1.true c.loop-p.invariant.common w.in-Some.ensures m);
                  few = omega (arith, w.count-is, c.loop-p.invariant.few);
                }
            | else-count-eq0+else-count-eq1 w' ↦
                record {
                  common = same_places _ _ _ _ _ _ _ _ _ _ (w.first-is ∙ w'.first-is) (w.gap-is ∙ w'.gap-is) w.count-is refl
                      (step_further _ _ _ _ _ _ _ _ _ _ c.xs.view_is cl w'.if-count-eq0.false w'.if-count-eq1.false c.loop-p.invariant.common w.in-Some.ensures
                      m);
                  few = omega (arith, w.count-is, c.loop-p.invariant.few);
                }
          ]
      | in-Some+else-contains w ↦
          let f : SFits w64 w.in-Some.i = search rules in
          record {
            common = same_places _ _ _ _ _ _ _ _ _ _ w.first-is w.gap-is w.count-is refl
                (step_passed _ _ _ _ _ _ _ c.loop-p.invariant.common w.in-Some.ensures
                (λ m. absurd (cc ((simp to_z-of_z at w.contains.ensures).1 m, w.if-contains.false))));
            few = omega (arith, w.count-is, c.loop-p.invariant.few);
          }
      | in_default w ↦
          record {
            common = same_places _ _ _ _ _ _ _ _ _ _ w.first-is w.gap-is w.count-is refl (step_none _ _ _ _ _ _ c.loop-p.invariant.common w.in_default.ensures);
            few = omega (arith, w.count-is, c.loop-p.invariant.few);
          }
    ]

pub returns : goal.returns
returns c =
    let e : length c.args.xs.now ≡ c.xs.inside.count = ap length (sym c.xs.view_is) ∙ length-steps _ _ _ in
    same_places _ _ _ _ _ _ _ _ _ _ refl refl refl (omega (arith, e)) c.loop-p.invariant.common

use Rattle.std.proofs.Common.{sym, ◌∙◌, arith}
use Rattle.std.specs.Option.{option_or}
use Rattle.std.specs.BTreeMap.{get}
use Rattle.std.proofs.lemmas.Grind.{common_steps}
use Rattle.wb_arrays.proofs.Places.{filled_more, passed_more, none_past}
use Rattle.wb_arrays.proofs.bound.filled.Goals as goal
use Rattle.wb_arrays.proofs.bound.filled.Goals.{in-Some+in-Some-or+in_ok-insert, in-Some+in_default-or, in_default}

pub loop-place-preserved : goal.loop-place-preserved
loop-place-preserved g c =
    let cmp = g.D.Index.Ord.cmp in
    let xs = g.D.Domain.indices c.args.domain.now in
    let p = c.loop-place.place in
    elim c.match-nth.branch [
      | in-Some+in-Some-or+in_ok-insert w ↦ record {
        all = c.loop-place.invariant.all;
        so_far = filled_more cmp g.met.D.Index.Ord.total g.met.D.Index.Key.exact xs p _ (λ q. option_or (get cmp c.args.map.now q) c.args.default) _ _
            (sym c.nth.ensures ∙ w.in-Some.is) c.loop-place.invariant.so_far
            (λ q. grind (
              arith,
              common_steps,
              w.in_ok-insert.ensures.updates.0 q,
              w.get.ensures.value,
              w.copied.ensures,
              w.or.ensures,
              w.in-Some-or.is,
              w.fresh-is,
            ));
      }
      | in-Some+in_default-or w ↦ record {
        all = c.loop-place.invariant.all;
        so_far = λ q. rw w.fresh-is (passed_more cmp g.met.D.Index.Ord.total g.met.D.Index.Key.exact xs p _
            (λ r. option_or (get cmp c.args.map.now r) c.args.default) _ (sym c.nth.ensures ∙ w.in-Some.is)
            (grind (arith, common_steps, w.get.ensures.value, w.copied.ensures, w.or.ensures, w.in_default-or.is)) c.loop-place.invariant.so_far q);
      }
      | in_default w ↦ absurd (omega (arith, none_past xs p (sym c.nth.ensures ∙ w.in_default.is), c.loop-place.invariant.all, c.loop-place-test.true))
    ]

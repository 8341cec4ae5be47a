use Rattle.std.proofs.Common.{◌≡◌, ◌<◌, ◌+◌, ◌∙◌, get_or, length, vec_items, vec_len, arith, below_more, rules, ap, subst, sym}
use Rattle.std.proofs.lemmas.Option.{slice_get_within}
use Rattle.std.specs.Vec.Iter.{into_iter_items}
use Rattle.wb_seats.proofs.Seated.{IsSeated, later, seated, came_back}
use Rattle.wb_seats.proofs.serving.fn.serve_all.scope.Goals as goal

pub loop-pass-preserved : goal.loop-pass-preserved
loop-pass-preserved g c =
    let was = c.loop-pass.invariant in
    let step = c.in-Some.ensures.steps in
    let done = vec_len c.loop-pass.handles in
    let first = into_iter_items c.into_iter-pass-iterator.result in
    let pushed = c.push in
    let told = c.in-Ok.ensures in
    let here = IsSeated g.N.Accepts c.accept.new.self first in
    let grown : vec_len pushed.new.self ≡ done + 1 = search rules in
    let at : (d : _) → get_or first done d ≡ c.in-Some.pass = λ d. let h = was.2 0 d in grind rules in
    let latest : here done c.of.result.value c.of-in-loop-pass.result.value c.of-in-loop-pass-2.result.value =
    seated g.N.Accepts c.accept.new.self first done (g.N.Accepts.accepted c.loop-pass.connections) c.in-Some.pass c.of.result.value
    c.in-Ok.came.0 c.of-in-loop-pass.result.value c.in-Ok.came.1 c.of-in-loop-pass-2.result.value was.0 told.came c.of.ensures
    c.of-in-loop-pass.ensures c.of-in-loop-pass-2.ensures at in (
      told.counted ∙ (ap (λ n. n + 1) was.0 ∙ sym grown),
      omega (arith, grown, step, was),
      (λ k h below. let e = was.2 (k + 1) h in let f = grown in grind rules),
      λ k d below. below_more (λ i. let p = (get_or (vec_items pushed.new.self) i d).promise in here i p.pass.value p.reader.value p.writer.value) done
          (λ i low. subst (λ x. here i x.promise.pass.value x.promise.reader.value x.promise.writer.value) (sym (pushed.ensures.by_index.0 i d low))
          (later g.N.Accepts c.loop-pass.connections c.accept.new.self first i _ _ _ told.kept (was.3 i d low)))
          (subst (λ x. here done x.promise.pass.value x.promise.reader.value x.promise.writer.value) (sym (pushed.ensures.by_index.1 d (search rules)))
          (subst (λ p. here done p.pass.value p.reader.value p.writer.value) (sym c.in-Ok-spawn_with.ensures.ok) latest))
          k (omega (arith, grown, below)),
    )

pub returns-in-Ok-join_promised : goal.returns-in-Ok-join_promised
returns-in-Ok-join_promised g c =
    let told = c.in-Ok-join_promised.ensures in
    let was = c.loop-pass.invariant in
    let first = into_iter_items c.into_iter-pass-iterator.result in
    let gives = c.into_iter-pass-iterator.ensures.into_iter_gives in
    let back = c.in-Ok-join_promised.passes in
    let whole : vec_len c.loop-pass.handles ≡ vec_len c.captures.passes = omega (arith, was.1, c.in-None.ensures.steps.0, gives.1) in
    let came : g.N.Accepts.accepted c.loop-pass.connections ≡ vec_len c.captures.passes = was.0 ∙ whole in
    let all : vec_len back ≡ vec_len c.captures.passes = told.len ∙ whole in
    record {
      ok = (
        c.loop-pass.connections,
        record {
          accepted = search (rules, came);
          count = search (rules, all);
          each = λ number h k is_h is_k.
              let within : number < length back.items = slice_get_within back.items number k is_k in
              let low : number < vec_len c.loop-pass.handles = search (rules, within, told.len) in
              let e = (told.each number k low).1 in
              let at : _ → Type 0 = λ x. IsSeated g.N.Accepts c.loop-pass.connections first number x.promise.pass.value x.promise.reader.value x.promise.writer.value in
              came_back g.I.Source g.O.Sink g.N.Accepts g.L.Opening.opening c.loop-pass.connections c.captures.passes.items back.items first
              number h k e.handle.promise.pass.value _ _ gives.0 is_h is_k (subst at (sym e.handle_is) (was.3 number e.handle low)) e.kept;
        },
      );
      fault = tt;
      failed = tt;
    }

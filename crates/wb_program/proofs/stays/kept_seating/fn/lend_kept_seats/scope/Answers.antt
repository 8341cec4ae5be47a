use Rattle.std.proofs.Common.{◌≡◌, ◌<◌, ◌+◌, ◌∙◌, get_or, length, vec_items, vec_len, arith, rules, ap, subst, sym}
use Rattle.std.proofs.lemmas.Option.{slice_get_within}
use Rattle.std.specs.Vec.Iter.{into_iter_items}
use Rattle.wb_lending.proofs.Places.{started, lent_back}
use Rattle.wb_program.specs.Stays.{hosts_at}
use Rattle.wb_program.proofs.stays.kept_seating.fn.lend_kept_seats.scope.Goals as goal

pub loop-pass-preserved : goal.loop-pass-preserved
loop-pass-preserved g c =
    let was = c.loop-pass.invariant in
    let step = c.in-Some.ensures.steps in
    let done = vec_len c.loop-pass.handles in
    let first = into_iter_items c.into_iter-pass-iterator.result in
    let pushed = c.push_reserved in
    let grown : vec_len pushed.new.self ≡ done + 1 = search rules in
    let many : length (vec_items c.loop-pass.handles) ≡ done = search rules in
    let latest : (p : _) → get_or first done p ≡ c.in-Ok-spawn_with.handle.promise.pass.value =
    λ p. let h = was.1 0 p in grind rules in (
      omega (arith, grown, step, was.0),
      (λ k p below. let e = was.1 (k + 1) p in let f = grown in grind rules),
      (λ k d p below. subst (λ xs. get_or first k p ≡ (get_or xs k d).promise.pass.value) (sym pushed.ensures.items)
          (started (λ x. x.promise.pass.value) first p (vec_items c.loop-pass.handles) c.in-Ok-spawn_with.handle d
          (λ i low. was.2 i d p (subst (λ n. i < n) many low))
          (subst (λ n. get_or first n p ≡ c.in-Ok-spawn_with.handle.promise.pass.value) (sym many) (latest p))
          k (omega (arith, grown, many, below)))),
      omega (arith, was.3, pushed.ensures.capacity),
    )

pub returns-in-Ok-join_promised : goal.returns-in-Ok-join_promised
returns-in-Ok-join_promised g c =
    let told = c.in-Ok-join_promised.ensures in
    let was = c.loop-pass.invariant in
    let first = into_iter_items c.into_iter-pass-iterator.result in
    let gives = c.into_iter-pass-iterator.ensures.into_iter_gives in
    let back = c.in-Ok-join_promised.passes in
    let whole : vec_len c.loop-pass.handles ≡ vec_len c.captures.passes = omega (arith, was.0, c.in-None.ensures.steps.0, gives.1) in
    let all : vec_len back ≡ vec_len c.captures.passes = told.len ∙ whole in
    record {
      ok = record {
        count = search (rules, all);
        each = λ place p k is_p is_k.
            let within : place < length back.items = slice_get_within back.items place k is_k in
            let low : place < vec_len c.loop-pass.handles = search (rules, within, told.len) in
            let e = (told.each place k low).1 in
            lent_back g.G.Guests (hosts_at g.I.Source g.O.Sink g.G.Guests g.L.Opening.seats g.L.Opening.opening) c.captures.passes.items back.items first place p k e.handle.promise.pass.value gives.0 is_p is_k
            (λ d. was.2 place e.handle d low ∙ ap (λ x. x.promise.pass.value) (sym e.handle_is)) e.kept;
        ended = c.turn_away_all.ensures;
      };
      failed = tt;
    }

use Rattle.std.proofs.Common.{◌⊎◌, inl, inr, ◌≤◌, ◌++◌, length, drop, ap, ◌∙◌, arith, append_assoc}
use Rattle.std.proofs.lemmas.List.{take_rest}
use Rattle.wb_sets.specs.Merge.{all_if}
use Rattle.wb_sets.proofs.Merge.{merged_rest, members-merged, sorted-merged}
use Rattle.wb_sets.proofs.merging.merge.Goals as goal
use Rattle.wb_sets.proofs.merging.merge.Goals.{then-loop-i-test+else-j-ys, else-loop-i-test}

pub returns : goal.returns
returns g c =
    let over : (length c.args.xs.now ≤ c.loop-i.i) ⊎ (length c.args.ys.now ≤ c.loop-i.j) = elim c.loop-i-test.branch [
      | then-loop-i-test+else-j-ys w ↦ inr (omega (arith, w.if-j-ys.false))
      | else-loop-i-test w ↦ inl (omega (arith, w.loop-i-test.false))
    ] in
    let rest = merged_rest g.K.Ord.cmp c.args.kept c.args.xs.now c.args.ys.now c.loop-i.i c.loop-i.j over in
    let first = rw take_rest at c.in_ok-append_if.ensures in
    let second = rw take_rest at c.in_ok-append_if-2.ensures in
    let all = second
    ∙ ap (λ zs. zs ++ all_if c.args.kept.second (drop c.loop-i.j c.args.ys.now)) first
    ∙ append_assoc c.loop-i.keys.items _ _
    ∙ ap (λ zs. c.loop-i.keys.items ++ zs) rest
    ∙ c.loop-i.invariant.all in
    rw all (record {
      members = λ k. members-merged g.K.Ord.cmp g.met.K.Ord.total g.met.K.Key.exact c.args.kept c.args.xs.now c.args.ys.now k c.requires.first
          c.requires.second;
      ascending = sorted-merged g.K.Ord.cmp g.met.K.Ord.total g.met.K.Key.exact c.args.kept c.args.xs.now c.args.ys.now c.requires.first c.requires.second;
    })

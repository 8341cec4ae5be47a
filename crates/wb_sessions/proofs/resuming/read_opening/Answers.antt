use Rattle.std.proofs.Common.{◌+◌, ◌++◌, arith, sym, subst, rules}
use Rattle.std.proofs.KnownBytes.{Consumes-trans}
use Rattle.std.specs.Io.KnownBytes.{Consumes}
use Rattle.wb_sessions.specs.Resuming.{HasNoEnd}
use Rattle.wb_sessions.proofs.resuming.read_opening.Goals as goal

pub returns-then-has_end-clause-ok : goal.returns-then-has_end-clause-ok
returns-then-has_end-clause-ok g c =
    let got = c.in-Ok-true.ensures.read in
    let left = g.R.Source.remaining in (
      subst (Consumes (left c.args.reader.now) (left c.read_more.new.reader)) (sym got.2)
          (Consumes-trans _ _ _ c.loop.bytes.items got.0 c.loop.invariant.0 got.1),
      λ none. absurd (c.has_end.ensures c.if-has_end.true (subst HasNoEnd (sym c.deref.ensures.value) none)),
    )

pub returns-in-Err-clause-err : goal.returns-in-Err-clause-err
returns-in-Err-clause-err g c =
    let got = c.read_more.ensures.read in
    (c.loop.bytes.items ++ got.0, Consumes-trans _ _ _ c.loop.bytes.items got.0 c.loop.invariant.0 got.1)

pub loop-preserved : goal.loop-preserved
loop-preserved g c =
    let got = c.in-Ok-true.ensures.read in
    let left = g.R.Source.remaining in (
      subst (Consumes (left c.args.reader.now) (left c.read_more.new.reader)) (sym got.2)
          (Consumes-trans _ _ _ c.loop.bytes.items got.0 c.loop.invariant.0 got.1),
      search rules,
    )

pub returns-then-has_end-clause-counted : goal.returns-then-has_end-clause-counted
returns-then-has_end-clause-counted g c = (c.loop.counter + 1, omega (arith, c.loop.invariant.1, c.read_more.ensures.counted))

pub returns-in-Ok-false-clause-counted : goal.returns-in-Ok-false-clause-counted
returns-in-Ok-false-clause-counted g c = (c.loop.counter + 1, omega (arith, c.loop.invariant.1, c.read_more.ensures.counted))

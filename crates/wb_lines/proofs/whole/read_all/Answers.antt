use Rattle.std.proofs.Common.{◌++◌}
use Rattle.std.proofs.KnownBytes.{Consumes-trans}
use Rattle.wb_lines.proofs.whole.read_all.Goals as goal

pub returns-in-Err-clause-err : goal.returns-in-Err-clause-err
returns-in-Err-clause-err g c =
    let got = c.read_more.ensures.read in
    (c.loop.bytes.items ++ got.0, Consumes-trans _ _ _ c.loop.bytes.items got.0 c.loop.invariant.0 got.1)

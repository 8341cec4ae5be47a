use Rattle.std.proofs.Common.{◌≡◌}
use Rattle.std.specs.Prelude.{All, IsOk}
use Rattle.wb_arrays.specs.Pieces.{lists_of}
use Rattle.wb_arrays.specs.Shares.{lists_joined}
use Rattle.wb_arrays.proofs.share.joined.Given as goal

abbrev pub invariant-loop-share : goal.invariant-loop-share
invariant-loop-share g l = record { lists : lists_of l.all.items ≡ lists_joined l.yielded; each : All IsOk l.yielded }

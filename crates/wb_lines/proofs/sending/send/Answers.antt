use Rattle.std.proofs.Common.{◌≡◌, ◌≤◌, ◌-◌, ℕ, List, take, drop, length, arith, take_all, length-drop}
use Rattle.std.proofs.Math.Seq.{take-add}
use Rattle.std.proofs.KnownBytes.{Appends-trans}
use Rattle.wb_lines.proofs.sending.send.Goals as goal

pub loop-sent-preserved : goal.loop-sent-preserved
loop-sent-preserved g c =
    let bytes = c.args.bytes.now in
    let sent = c.loop-sent.sent in
    let rest : List ℕ = drop sent bytes in
    let whole : take (length bytes - sent) rest ≡ rest = take_all (length bytes - sent) rest (omega (arith, length-drop {A = ℕ} sent bytes)) in
    let bound : c.in-Ok.n ≤ length rest = rw whole at c.in-Ok.ensures.bound in
    record {
      in_range = omega (arith, bound, length-drop {A = ℕ} sent bytes, c.loop-sent.invariant.in_range);
      so_far = rw (take-add sent c.in-Ok.n bytes, ← whole) (Appends-trans _ _ _ _ _ c.loop-sent.invariant.so_far c.in-Ok.ensures.bytes);
    }

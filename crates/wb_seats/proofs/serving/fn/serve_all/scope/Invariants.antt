use Rattle.std.proofs.Common.{◌≡◌, ℕ, ◌+◌, ◌<◌, get_or, vec_items, vec_len}
use Rattle.std.specs.Vec.Iter.{into_iter_items, into_iter_len}
use Rattle.wb_seats.proofs.Seated.{IsSeated}
use Rattle.wb_seats.proofs.serving.fn.serve_all.scope.Given as goal

-- as many connections came as threads were started, and each is that of the pass at its place
abbrev pub invariant-loop-pass : goal.invariant-loop-pass
invariant-loop-pass g l =
    let rest = l.pass-iterator in
    let first = into_iter_items l.initial.pass-iterator in
    let done = vec_len l.handles in
    (g.N.Accepts.accepted l.connections ≡ done)
    × (done + into_iter_len rest ≡ into_iter_len l.initial.pass-iterator)
    × ((k : ℕ) (h : _) → k < into_iter_len rest → get_or (into_iter_items rest) k h ≡ get_or first (done + k) h)
    × ((k : ℕ) (d : _) → k < done → let p = (get_or (vec_items l.handles) k d).promise in
    IsSeated g.N.Accepts l.connections first k p.pass.value p.reader.value p.writer.value)

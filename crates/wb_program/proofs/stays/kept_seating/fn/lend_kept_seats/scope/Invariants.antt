use Rattle.std.proofs.Common.{◌≡◌, ℕ, ◌+◌, ◌<◌, ◌≤◌, get_or, vec_items, vec_len}
use Rattle.std.specs.Vec.{vec_capacity}
use Rattle.std.specs.Vec.Iter.{into_iter_items, into_iter_len}
use Rattle.wb_program.proofs.stays.kept_seating.fn.lend_kept_seats.scope.Given as goal

-- as many threads were started as passes are gone through, each for the seat of its number, and there is room for the others
abbrev pub invariant-loop-pass : goal.invariant-loop-pass
invariant-loop-pass g l =
    let rest = l.pass-iterator in
    let first = into_iter_items l.initial.pass-iterator in
    let done = vec_len l.handles in
    (done + into_iter_len rest ≡ into_iter_len l.initial.pass-iterator)
    × ((k : ℕ) (p : _) → k < into_iter_len rest → get_or (into_iter_items rest) k p ≡ get_or first (done + k) p)
    × ((k : ℕ) (d : _) (p : _) → k < done → get_or first k p ≡ (get_or (vec_items l.handles) k d).promise.pass.value)
    × (into_iter_len l.initial.pass-iterator ≤ vec_capacity l.handles)

-- The laws of a file whose calls are on record.
use Rattle.std.specs.Prelude.{◌≤◌, ℕ, List, [], ◌∷◌, length}
use Rattle.std.proofs.Common.{inl, inr}
use Rattle.std.proofs.Math.Nat.{not-suc-le_self}
use Rattle.wb_keep.specs.Disk.Calls.{Call, MayLeave, LeftSince}

pub left_now : (calls : List Call) (t : ℕ) (c : List ℕ) → t ≤ length calls → MayLeave calls c → LeftSince calls t c
left_now [] t c le now = now
left_now (call ∷ calls) t c le now = inl now

pub no_other : (calls : List Call) (c : List ℕ) → LeftSince calls (length calls) c → MayLeave calls c
no_other [] c left = left
no_other (call ∷ calls) c (inl now) = now
no_other (call ∷ calls) c (inr past) = absurd (not-suc-le_self (length calls) past.0)

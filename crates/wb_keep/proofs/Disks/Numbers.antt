-- A list of calls is read back from its numbers.
use Rattle.std.proofs.Common.{◌≡◌, ℕ, suc, Bool, true, false, List, [], ◌∷◌, ◌++◌, map, refl, ap, ◌∙◌}
use Rattle.wb_keep.specs.Disk.Noted.{bit, noted, onto, parts, call_of, calls_in}

parts_behind : (numbers earlier : List ℕ) → parts (map suc numbers ++ 0 ∷ earlier) ≡ numbers ∷ parts earlier
parts_behind [] earlier = refl
parts_behind (n ∷ numbers) earlier = ap (onto n) (parts_behind numbers earlier)

call_back : (kind at : ℕ) (done : Bool) (bytes : List ℕ) → call_of (kind ∷ at ∷ bit done ∷ bytes) ≡ (kind, at, done, bytes)
call_back kind at true bytes = refl
call_back kind at false bytes = refl

-- a call that was noted is the first, in front of those before it
pub noted_first : (kind at : ℕ) (done : Bool) (bytes earlier : List ℕ) → calls_in (noted (kind, at, done, bytes) earlier) ≡ (kind, at, done, bytes) ∷ calls_in earlier
noted_first kind at done bytes earlier =
    ap (λ (calls : List (List ℕ)). map call_of calls) (parts_behind (kind ∷ at ∷ bit done ∷ bytes) earlier)
    ∙ ap (λ (call : ℕ × ℕ × Bool × List ℕ). call ∷ calls_in earlier) (call_back kind at done bytes)

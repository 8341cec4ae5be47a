-- A list of calls as one list of numbers, and back.
use Rattle.std.specs.Prelude.{ℕ, zero, suc, Bool, true, false, ◌==◌, List, [], ◌∷◌, ◌++◌, map}

-- 1 where a call was done
abbrev pub bit : Bool → ℕ
bit true = 1
bit false = 0

-- one call in front of others: each of its numbers one greater, so that 0 ends it
abbrev pub noted : ℕ × ℕ × Bool × List ℕ → List ℕ → List ℕ
noted call earlier = map suc (call.0 ∷ call.1 ∷ bit call.2 ∷ call.3) ++ 0 ∷ earlier

-- this number at the front of the first call
abbrev pub onto : ℕ → List (List ℕ) → List (List ℕ)
onto n [] = []
onto n (call ∷ calls) = (n ∷ call) ∷ calls

-- the numbers of each call
abbrev pub parts : List ℕ → List (List ℕ)
parts [] = []
parts (zero ∷ rest) = [] ∷ parts rest
parts (suc n ∷ rest) = onto n (parts rest)

-- the call that these numbers are: which it was, where, whether it was done, and its bytes
abbrev pub call_of : List ℕ → ℕ × ℕ × Bool × List ℕ
call_of (kind ∷ at ∷ done ∷ bytes) = (kind, at, done == 1, bytes)
call_of fewer = (3, 0, true, fewer)

-- the calls that were noted
abbrev pub calls_in : List ℕ → List (ℕ × ℕ × Bool × List ℕ)
calls_in numbers = map call_of (parts numbers)

-- The calls that a file has had, the newest first, and what a crash may leave after them.
use Rattle.std.specs.Prelude.{◌≡◌, ◌⊎◌, ◌≤◌, ℕ, zero, suc, ◌+◌, ◌==◌, Bool, true, false, ◌&&◌, ◌||◌, if◌then◌else◌, List, [], ◌∷◌, ◌++◌, length, take, drop}
use Rattle.wb_keep.specs.Disk.Device.{Torn, Cut, Only}

-- which call, where, whether it was done, and its bytes
abbrev pub Call : Type 0
Call = ℕ × ℕ × Bool × List ℕ

abbrev pub written : ℕ → List ℕ → Bool → Call
written at bytes done = (0, at, done, bytes)

abbrev pub cut_to : ℕ → Bool → Call
cut_to len done = (1, len, done, [])

abbrev pub synced : Bool → Call
synced done = (2, 0, done, [])

-- the first call: the file was opened, and these bytes were on the disk
abbrev pub held : List ℕ → Call
held bytes = (3, 0, true, bytes)

-- a new file was made beside it, with these bytes
abbrev pub made : List ℕ → Bool → Call
made bytes done = (4, 0, done, bytes)

-- the new file was synced
abbrev pub made_durable : Bool → Call
made_durable done = (5, 0, done, [])

-- the new file was given the name of the old one
abbrev pub named : Bool → Call
named done = (6, 0, done, [])

-- the folder was synced, in which the name is
abbrev pub folder_synced : Bool → Call
folder_synced done = (7, 0, done, [])

-- old with these bytes at this offset
abbrev pub laid : List ℕ → ℕ → List ℕ → List ℕ
laid old at bytes = take at old ++ bytes ++ drop (at + length bytes) old

-- the bytes of the new file that was made last
abbrev pub new_after : List Call → List ℕ
new_after [] = []
new_after (call ∷ calls) = if call.0 == 4 then call.3 else new_after calls

-- whether it was written whole
abbrev pub new_written : List Call → Bool
new_written [] = false
new_written (call ∷ calls) = if call.0 == 4 then call.2 else new_written calls

-- whether all of it is on the disk
abbrev pub new_synced : List Call → Bool
new_synced [] = false
new_synced (call ∷ calls) = if call.0 == 4 then false else if call.0 == 5 then call.2 && new_written calls else new_synced calls

-- before that a crash may leave any bytes of it
abbrev pub OfNew : Bool → List ℕ → List ℕ → Type 0
OfNew true bytes c = c ≡ bytes
OfNew false bytes c = Unit {0}

abbrev pub NewLeaves : List Call → List ℕ → Type 0
NewLeaves calls c = OfNew (new_synced calls) (new_after calls) c

-- what a call that was done makes of the bytes, beside a new file
abbrev pub effect : ℕ → ℕ → List ℕ → List ℕ → List ℕ → List ℕ
effect zero at bytes new old = laid old at bytes
effect (suc zero) at bytes new old = take at old
effect (suc (suc (suc zero))) at bytes new old = bytes
effect (suc (suc (suc (suc (suc (suc zero)))))) at bytes new old = new
effect other at bytes new old = old

-- what a read returns after these calls
abbrev pub seen_after : List Call → List ℕ
seen_after [] = []
seen_after (call ∷ calls) = if call.2 then effect call.0 call.1 call.3 (new_after calls) (seen_after calls) else seen_after calls

-- what a crash may make of a call that is not settled
abbrev pub Takes : ℕ → ℕ → List ℕ → List ℕ → List ℕ → Type 0
Takes zero at bytes old new = Torn at bytes old new
Takes (suc zero) at bytes old new = Cut at old new
Takes (suc (suc more)) at bytes old new = new ≡ old

-- after a sync, or the opening, the disk has what a read returns
abbrev pub settles : Call → Bool
settles call = call.2 && (call.0 == 2 || call.0 == 3)

-- the outcomes of the new file where the last call gave it the name, and else those that there were
abbrev pub IfNamed : Bool → (new old : List ℕ → Type 0) → List ℕ → Type 0
IfNamed true new old = new
IfNamed false new old = old

abbrev pub Behind : List Call → (List ℕ → Type 0) → List ℕ → Type 0
Behind [] old = old
Behind (call ∷ calls) old = IfNamed (call.2 && call.0 == 6) (NewLeaves calls) old

-- Which file a crash leaves: from a call that gives the new one the name, the old one or the new one; after the sync of the
-- folder behind that, the new one.
abbrev pub Leaves : ℕ → Bool → (old new behind : List ℕ → Type 0) → List ℕ → Type 0
Leaves (suc (suc (suc (suc (suc (suc zero)))))) done old new behind = λ c. old c ⊎ new c
Leaves (suc (suc (suc (suc (suc (suc (suc zero))))))) true old new behind = behind
Leaves kind done old new behind = old

abbrev pub Step : Bool → List ℕ → (List ℕ → Type 0) → (List ℕ → List ℕ → Type 0) → List ℕ → Type 0
Step true seen before takes c = c ≡ seen
Step false seen before takes c = (d : List ℕ) × before d × takes d c

abbrev pub Reaches : List Call → List ℕ → Type 0
Reaches [] c = c ≡ []
Reaches (call ∷ calls) c = Step (settles call) (seen_after (call ∷ calls)) (Leaves call.0 call.2 (Reaches calls) (NewLeaves calls) (Behind calls (Reaches calls))) (Takes call.0 call.1 call.3) c

-- all that was written, or what a crash makes of the calls since the last sync
abbrev pub MayLeave : List Call → List ℕ → Type 0
MayLeave calls c = (c ≡ seen_after calls) ⊎ Reaches calls c

-- after some number of the calls that is t or more
abbrev pub LeftSince : List Call → ℕ → List ℕ → Type 0
LeftSince [] t c = MayLeave [] c
LeftSince (call ∷ calls) t c = MayLeave (call ∷ calls) c ⊎ ((t ≤ length calls) × LeftSince calls t c)

-- how many of the calls failed
abbrev pub faults_in : List Call → ℕ
faults_in [] = 0
faults_in (call ∷ calls) = if call.2 then faults_in calls else suc (faults_in calls)

-- the file has these bytes, all of them on the disk
pub record IsHeld (bytes : List ℕ) (calls : List Call) : Type 0 where
  pub seen : seen_after calls ≡ bytes
  pub durable : Only (seen_after calls) (MayLeave calls)

-- When a desk is settled: each seat has one pass, and the list of the seat's entries is the pass's list.
use Rattle.std.specs.Prelude.{◌≡◌, ◌≢◌, ℕ, zero, suc, ◌+◌, ◌<◌, ◌==◌, List, [], ◌∷◌, Some, filter, length, take, slice_get}
use Rattle.std.specs.List.{sum_by}
use Rattle.wb_desk.specs.declared.entry.Entry.{Entry}
use Rattle.wb_desk.specs.declared.settling.Cause.{Cause}
use Rattle.wb_desk.specs.declared.settling.Cause.TheVariants.{MissingPass, Differs}
use Rattle.wb_desk.specs.Courses.{list_of}
use Rattle.wb_desk.specs.Serving.{Held}

-- the passes of a seat
abbrev pub passes_of : ℕ → List Held → List Held
passes_of k ps = filter (λ p. p.seat == k) ps

abbrev pub HasOnePass : List Held → ℕ → Type 0
HasOnePass ps k = length (passes_of k ps) ≡ 1

-- the pass at this place is the only one of the seat
abbrev pub IsOnly : List Held → ℕ → ℕ → Type 0
IsOnly ps k i = (p : Held) × (slice_get ps i ≡ Some p) × (passes_of k ps ≡ p ∷ [])

-- A seat agrees with these lists: it has one pass, and this has the list of the seat.
abbrev pub Agrees : List (List Entry) → List Held → ℕ → Type 0
Agrees lists ps k = (p : Held) × (passes_of k ps ≡ p ∷ []) × (list_of lists k ≡ p.own)

-- so many seats agree
abbrev pub IsSettled : ℕ → List (List Entry) → List Held → Type 0
IsSettled n lists ps = (k : ℕ) → k < n → Agrees lists ps k

-- the least place at which two lists differ
abbrev pub FirstDifference : List Entry → List Entry → ℕ → Type 0
FirstDifference xs ys i = (take i xs ≡ take i ys) × (slice_get xs i ≢ slice_get ys i)

-- the seat has one pass, whose list first differs from the seat's at this place
abbrev pub DiffersAt : List (List Entry) → List Held → ℕ → ℕ → Type 0
DiffersAt lists ps k place = (p : Held) × (passes_of k ps ≡ p ∷ []) × FirstDifference (list_of lists k) p.own place

-- the least seat that has no pass, or more than one
pub record IsMissing (n : ℕ) (ps : List Held) (k : ℕ) : Type 0 where
  pub seat : k < n
  pub missing : ¬ HasOnePass ps k
  pub least : (j : ℕ) → j < k → HasOnePass ps j

-- Each seat has one pass; the least seat that doesn't agree, and the least place where it doesn't.
pub record IsDifferent (n : ℕ) (lists : List (List Entry)) (ps : List Held) (k place : ℕ) : Type 0 where
  pub seat : k < n
  pub passes : (j : ℕ) → j < n → HasOnePass ps j
  pub least : IsSettled k lists ps
  pub different : DiffersAt lists ps k place

-- the first cause why a desk of so many seats is not settled
abbrev pub IsCause : ℕ → List (List Entry) → List Held → Cause → Type 0
IsCause n lists ps (MissingPass k) = IsMissing n ps k
IsCause n lists ps (Differs k place) = IsDifferent n lists ps k place

-- the lengths of the lists of the passes of so many seats, together
abbrev pub total_of_passes : ℕ → List Held → ℕ
total_of_passes zero ps = 0
total_of_passes (suc k) ps = total_of_passes k ps + sum_by (λ p. length p.own) (passes_of k ps)

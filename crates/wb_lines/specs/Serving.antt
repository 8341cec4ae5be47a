-- What a session does that is served in turns of lines, up to its end, by what each turn does.
use Rattle.std.specs.Prelude.{◌≡◌, ◌≤◌, ◌+◌, ℕ, List, [], ◌++◌, length, Option, Result, Ok, Err}
use Rattle.wb_lines.specs.Lines.{lines, whole_lines, finished_lines}
use Rattle.wb_lines.specs.declared.machine.SessionEnd.{SessionEnd}
use Rattle.wb_lines.specs.declared.machine.SessionEnd.TheVariants as ends
use Rattle.wb_lines.specs.declared.machine.Stop.{Stop}
use Rattle.wb_lines.specs.declared.machine.Stop.TheVariants as stops

-- By how a session ended: all lines went, or at a fault of the writer, or for want of memory, those that were finished halted.
-- Each says of a state, of lines, of the text that was written and of how many lines were told, which state comes then.
abbrev pub EndsBy : {S : Type 0} → (goes unsent short : S → List (List ℕ) → List ℕ → ℕ → S → Type 0) → SessionEnd → S → (read : List ℕ) → (left : Option (List ℕ))
    → List ℕ → S → Type 0
EndsBy goes unsent short (ends.Done count) s read left text t = goes s (lines read) text count t
EndsBy goes unsent short (ends.ReadFault count) s read left text t = goes s (whole_lines read) text count t
EndsBy goes unsent short (ends.TooManyReads count) s read left text t = goes s (whole_lines read) text count t
EndsBy goes unsent short (ends.WriteFault count) s read left text t = unsent s (finished_lines read left) text count t
EndsBy goes unsent short (ends.NoMemory count) s read left text t = short s (finished_lines read left) text count t

-- so did a session, or a turn failed for a cause of its own
abbrev pub ServesBy : {S E : Type 0} → (goes : S → List (List ℕ) → List ℕ → ℕ → S → Type 0) → (halts : Stop E → S → List (List ℕ) → List ℕ → ℕ → S → Type 0)
    → Result SessionEnd (ℕ × E) → S → (read : List ℕ) → (left : Option (List ℕ)) → List ℕ → S → Type 0
ServesBy goes halts (Ok end) s read left text t = EndsBy goes (halts stops.WriteFault) (halts stops.NoMemory) end s read left text t
ServesBy goes halts (Err (count, cause)) s read left text t = halts (stops.Other cause) s (finished_lines read left) text count t

-- What turns have to be, so that a session of them is one: they go on from where the one before stopped.
pub record AreTurns {S E : Type 0} (rests : S → Type 0) (goes : S → List (List ℕ) → List ℕ → ℕ → S → Type 0)
    (halts : Stop E → S → List (List ℕ) → List ℕ → ℕ → S → Type 0) : Type 0 where
  -- before the first turn
  pub none : (s : S) → rests s → goes s [] [] 0 s
  -- a turn after others
  pub more : (s t u : S) (xs ys : List (List ℕ)) (a b : List ℕ) (n m : ℕ) → goes s xs a n t → goes t ys b m u → goes s (xs ++ ys) (a ++ b) (n + m) u
  -- one that halts after others
  pub then_halts : (stop : Stop E) (s t u : S) (xs ys : List (List ℕ)) (a b : List ℕ) (n m : ℕ) → goes s xs a n t → halts stop t ys b m u
      → halts stop s (xs ++ ys) (a ++ b) (n + m) u
  -- with lines behind it to which it did not come
  pub halts_before : (stop : Stop E) (s t : S) (xs ys : List (List ℕ)) (a : List ℕ) (n : ℕ) → halts stop s xs a n t → halts stop s (xs ++ ys) a n t
  -- between two turns a session may end
  pub unsent : (s t : S) (xs : List (List ℕ)) (a : List ℕ) (n : ℕ) → goes s xs a n t → halts stops.WriteFault s xs a n t
  pub short : (s t : S) (xs : List (List ℕ)) (a : List ℕ) (n : ℕ) → goes s xs a n t → halts stops.NoMemory s xs a n t
  -- no more lines are told than there are
  pub few : (s t : S) (xs : List (List ℕ)) (a : List ℕ) (n : ℕ) → goes s xs a n t → n ≤ length xs
  pub halts_few : (stop : Stop E) (s t : S) (xs : List (List ℕ)) (a : List ℕ) (n : ℕ) → halts stop s xs a n t → n ≤ length xs

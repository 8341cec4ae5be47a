-- A book of turns, whose one word in use is their number.
use Rattle.std.specs.Prelude.{ℕ, ◌≡◌, ◌==◌, true, List, [], ◌∷◌, ◌++◌, length, MatchBool}
use Rattle.logbook.specs.Pages.{Cell, Step, View, Book, Named}

-- the first word is the number of turns
abbrev pub IsCounted : {C : Type 0} → List Cell → List C → Type 0
IsCounted cells turns = (others : List Cell) × (cells ≡ (length turns, true) ∷ others)

-- that word, in the book
abbrev pub word_of : Book → Named
word_of book = record { tracked = true; key = 0; book = book }

-- where the number was as expected, the turn was added to all that had been seen
abbrev pub IsAdded : {C : Type 0} → Step C → View C ℕ → ℕ → View C ℕ → Type 0
IsAdded step before found after = MatchBool (found == step.old) (after.0 ≡ before.0 ++ step.ask ∷ []) (Unit {0})

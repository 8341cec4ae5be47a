-- The lines of a text.
use Rattle.std.specs.Prelude.{◌≡◌, ◌≢◌, ℕ, List, [], ◌∷◌, ◌++◌, ◌==◌, if◌then◌else◌, Option, None, Some}

-- no byte ends a line
abbrev pub IsUnbroken : List ℕ → Type 0
IsUnbroken [] = Unit {0}
IsUnbroken (b ∷ bs) = (b ≢ 10) × IsUnbroken bs

abbrev pub AreUnbroken : List (List ℕ) → Type 0
AreUnbroken [] = Unit {0}
AreUnbroken (l ∷ ls) = IsUnbroken l × AreUnbroken ls

abbrev pub onto_first : ℕ → List (List ℕ) → List (List ℕ)
onto_first b [] = (b ∷ []) ∷ []
onto_first b (l ∷ ls) = (b ∷ l) ∷ ls

-- the texts before each line end, and the text after the last one if it isn't empty
abbrev pub lines : List ℕ → List (List ℕ)
lines [] = []
lines (b ∷ bs) = if b == 10 then [] ∷ lines bs else onto_first b (lines bs)

abbrev pub onto_whole : ℕ → List (List ℕ) → List (List ℕ)
onto_whole b [] = []
onto_whole b (l ∷ ls) = (b ∷ l) ∷ ls

-- the texts before each line end
abbrev pub whole_lines : List ℕ → List (List ℕ)
whole_lines [] = []
whole_lines (b ∷ bs) = if b == 10 then [] ∷ whole_lines bs else onto_whole b (whole_lines bs)

-- Of the bytes that were read, with these left, the texts before each line end, and the text after the last one only where no
-- byte is left, or nobody knows which are.
abbrev pub finished_lines : (read : List ℕ) → (left : Option (List ℕ)) → List (List ℕ)
finished_lines read None = lines read
finished_lines read (Some []) = lines read
finished_lines read (Some (b ∷ bs)) = whole_lines read

-- a line and its end
abbrev pub ended : List ℕ → List ℕ
ended line = line ++ 10 ∷ []

-- a line with its end stands at the front
abbrev pub BeginsWithLine : List ℕ → Type 0
BeginsWithLine bytes = (line rest : List ℕ) × IsUnbroken line × (bytes ≡ ended line ++ rest)

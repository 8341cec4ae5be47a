-- Where a text that begins and ends as one of ours is no history's: the first line with which no history goes on, or the lines above its
-- edits.
use Rattle.std.specs.Prelude.{◌≡◌, ◌≢◌, ◌⊎◌, ◌+◌, ℕ, List, [], ◌∷◌, ◌++◌, length, take, drop, codes, Option, None, Some}
use Rattle.std.specs.List.{flat_map}
use Rattle.memchr.specs.Find.{FindsNeedle, is_byte, places}
use Rattle.wb_history.specs.Past.{Numbered}
use Rattle.wb_lines.specs.Lines.{ended, IsUnbroken}
use Rattle.wb_machine.specs.Histories.Text.{edit_line, IsHistory}
use Rattle.wb_sessions.specs.declared.reasons.Reason.{Reason}
use Rattle.wb_sessions.specs.declared.reasons.Reason.TheVariants as reasons

-- what the line begins with that counts the edits, with the line end before it
abbrev pub count_word : List ℕ
count_word = codes "\nhistory "

-- how many lines end within bytes
abbrev pub line_ends : List ℕ → ℕ
line_ends bytes = length (places (is_byte 10) bytes)

-- These bytes stand behind the first line that counts the edits.
pub record StandsBelow (bytes below : List ℕ) : Type 0 where
  pub place : ℕ
  pub count : List ℕ
  pub first : FindsNeedle bytes count_word 0 (Some place)
  pub unbroken : IsUnbroken count
  pub same : bytes ≡ take (place + 9) bytes ++ (ended count ++ below)

-- no line counts edits, or that line has no end
abbrev pub HasNoCount : List ℕ → Type 0
HasNoCount bytes = FindsNeedle bytes count_word 0 None
    ⊎ ((place : ℕ) × FindsNeedle bytes count_word 0 (Some place) × IsUnbroken (drop (place + 9) bytes))

-- Of bytes below that line, these are left behind the lines of a history's edits, as many as there are: no history that begins with these
-- edits goes on with a line that is left.
pub record LeavesBehind (below left : List ℕ) : Type 0 where
  pub entries : List Numbered
  pub is_history : IsHistory entries
  pub same : below ≡ flat_map edit_line entries ++ left
  pub none : (x : Numbered) (more : List Numbered) (behind : List ℕ) → IsHistory (entries ++ x ∷ more) → left ≡ edit_line x ++ behind → ⊥

-- nothing but the last line of a text is left: the edits are those of a history, and the lines above them are not its; or the first line
-- that is left is the place, by how many lines end before it
abbrev pub WhyLeft : (bytes left : List ℕ) → Reason → Type 0
WhyLeft bytes left why = ((left ≡ codes "end\n") × (why ≡ reasons.OtherHeading))
    ⊎ ((left ≢ codes "end\n") × ((front : List ℕ) × (bytes ≡ front ++ left) × (why ≡ reasons.LineNotGranted (line_ends front))))

-- why bytes are the text of no history that begin and end as a text of ours
abbrev pub WhyAltered : List ℕ → Reason → Type 0
WhyAltered bytes why = (HasNoCount bytes × (why ≡ reasons.Altered))
    ⊎ ((below left : List ℕ) × StandsBelow bytes below × LeavesBehind below left × WhyLeft bytes left why)

-- What makes a transaction: how many commands, and which text as a note.
use Rattle.std.specs.Prelude.{ℕ, ◌≤◌, Bool, ◌&&◌, nat_le, List, length}
use Rattle.std.specs.List.{list_all}
use Rattle.wb_sets.specs.Labels.{is_plain}

-- 1 to 4,096 commands
abbrev pub AreSeveral : {X : Type 0} → List X → Type 0
AreSeveral cs = (1 ≤ length cs) × (length cs ≤ 4096)

-- whether a text is a note: at most 256 bytes, each of them one that a label may have
abbrev pub is_note : List ℕ → Bool
is_note text = nat_le (length text) 256 && list_all is_plain text

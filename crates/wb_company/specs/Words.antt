-- The word that a line says to a desk that stays itself: a JSON object with `op` and exactly the fields of that op.
use Rattle.std.specs.Prelude.{ℕ, suc, Bool, List, length, codes, Option, Some, None, option_map, option_and_then, bytes_eq, nat_eq, nat_le, if◌then◌else◌}
use Rattle.std.specs.Str.{is_utf8}
use Rattle.serde_json.specs.Data.{Data, null, boolean, number, string, array, object, Members, no_members, member}
use Rattle.serde_json.specs.Find.{get, as_number, as_str, as_u64}
use Rattle.serde_json.specs.Read.{read}
use Rattle.wb_sets.specs.Labels.{is_label}
use Rattle.wb_company.specs.declared.words.Word.{Word}
use Rattle.wb_company.specs.declared.words.Word.TheVariants.{Hello, EditsFrom, Desk}

-- how many members there are
abbrev pub member_count : Members → ℕ
member_count no_members = 0
member_count (member k d ms) = suc (member_count ms)

-- how many fields an object has
abbrev pub field_count : Data → ℕ
field_count (object ms) = member_count ms
field_count null = 0
field_count (boolean b) = 0
field_count (number n) = 0
field_count (string s) = 0
field_count (array ds) = 0

-- a field that is a text
abbrev pub text_of : List ℕ → Data → Option (List ℕ)
text_of key d = option_and_then as_str (get key d)

-- A name has at most 32 bytes,
abbrev pub is_short : List ℕ → Bool
is_short text = nat_le (length text) 32

-- and is a label.
abbrev pub called : List ℕ → Option Word
called text = if is_short text then (if is_label text then Some (Hello text) else None) else None

-- {"op":"hello","name":NAME}
abbrev pub hello_of : Data → Option Word
hello_of d = if nat_eq (field_count d) 2 then option_and_then called (text_of (codes "name") d) else None

-- {"op":"edits","from":NUMBER}
abbrev pub edits_of : Data → Option Word
edits_of d = if nat_eq (field_count d) 2 then option_map EditsFrom (option_and_then as_u64 (option_and_then as_number (get (codes "from") d))) else None

-- {"op":"desk"}
abbrev pub desk_of : Data → Option Word
desk_of d = if nat_eq (field_count d) 1 then Some Desk else None

-- by its op
abbrev pub by_op : List ℕ → Data → Option Word
by_op op d =
    if bytes_eq op (codes "hello") then hello_of d else
    if bytes_eq op (codes "edits") then edits_of d else
    if bytes_eq op (codes "desk") then desk_of d else
    None

-- the word that a JSON value is, if it is one
abbrev pub word_of : Data → Option Word
word_of d = option_and_then (λ op. by_op op d) (text_of (codes "op") d)

-- the word that a line is, if it is one: UTF-8 that is JSON
abbrev pub word : List ℕ → Option Word
word line = if is_utf8 line then option_and_then word_of (read line) else None
